mod KnownPromotions
pub mod Unchanged
mod Impossible
mod RowPorts
mod RowCounts
mod RowSides
mod RowReady
mod Orders
mod Sources
mod SeenAlike
pub mod Twins
mod Chains
mod MadeBeside
mod Stays
mod Shapes
mod Steps
mod Members
mod Near
mod GroupSeen
mod RowStarts
mod GroupTurn
mod StaticStays
mod MadeControl
mod LeavesQuicken
mod PiecesQuicken
pub mod Trees
pub mod PortsMade
mod LeadsMade
mod AssignsMade
mod CallsMade
mod InvokesMade
mod VisitsMade
mod StatementsMade
pub mod RulesMade
mod Together
mod Runs
mod Pieces
mod WholeStays
mod WholeLists
mod WholeIslands
mod WholeRests
mod WholePieces
mod WholeLeaves
mod ControlStays
mod WholeRuns
pub mod WholeDesigns
