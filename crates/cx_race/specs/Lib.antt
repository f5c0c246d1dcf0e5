pub mod Forms
pub mod Cells
pub mod Links
pub mod Footprints
pub mod Races
pub mod RaceBreaks
