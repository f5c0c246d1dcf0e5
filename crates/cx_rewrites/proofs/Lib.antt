pub mod TallyLemmas
pub mod PaceLemmas
pub mod CarryLemmas
mod PartLemmas
pub mod BesideLemmas
pub mod MovedLemmas
pub mod MovedLists
pub mod MovedInvokes
pub mod MovedCalls
pub mod FollowLemmas
pub mod SolvedLemmas
pub mod TargetLemmas
pub mod MoveLemmas
pub mod OrderLemmas
pub mod DriverLemmas
pub mod RenamedLemmas
pub mod TurnLemmas
pub mod IslandLemmas
pub mod CellLemmas
pub mod ReflectLemmas
pub mod ClosedLemmas
pub mod StandingLemmas
pub mod PlaceLemmas
pub mod PlaceStatements
pub mod PlaceRuns
pub mod PlaceDesigns
mod PlacePorts
mod PlaceLeads
mod PlaceShapes
pub mod PlaceInvokes
pub mod PlaceRules
mod PlaceCalls
mod PlaceLimits
pub mod FlatRulesLemmas
pub mod PlaceAccepted
mod LoneLemmas
pub mod KnownRewrites
