pub mod BareIslands
pub mod BareRuns
pub mod BareDesigns
pub mod KnownInvokes
pub mod KnownNested
mod Sorting
mod MovedDrivers
mod CopiedAssigns
mod FirstFaults
pub mod Placing
mod PortLemmas
mod FlatAssigns
mod FlatDrivers
pub mod LevelSights
mod RestingPorts
mod MovedTwice
pub mod Standing
mod StillPorts
mod FlatOutputs
mod FlatSights
mod FlatChildren
mod FlatSeen
mod FlatCycles
mod FlatTops
mod CopiedControl
mod FlatGroups
pub mod FlatLengths
pub mod FlatTurns
pub mod Windows
pub mod FlatDeeds
pub mod FlatActs
pub mod FlatLists
mod FlatSpots
mod FlatLooks
mod IdleStands
pub mod FlatIslands
mod FlatRows
pub mod FlatTests
pub mod FlatCalls
pub mod CellLayout
pub mod Reached
pub mod TreeLevels
mod FlatTrees
mod FlatStarts
mod FlatArms
pub mod FlatStatements
pub mod FlatRuns
pub mod Ruled
mod Statements
pub mod FairParts
pub mod FlatOrigins
mod FlatBlocks
pub mod AcceptedTrees
mod Safe
mod SafeLevels
mod SafeOutputs
mod FlatSafe
pub mod FlatDeeper
pub mod StillActs
pub mod DeedSources
pub mod DeedsApart
pub mod DeedsOnce
mod FlatDrives
mod ArmsAlike
mod FlatBare
mod FlatCaptures
mod FlatDepends
mod FlatCallees
pub mod StaticControls
mod AcceptedAsks
pub mod AcceptedRuns
mod FaultRuns
pub mod FlatSizes
pub mod FlatFolds
pub mod FlatLimits
pub mod FlatComponents
mod FlatCircles
pub mod FlatNumbers
pub mod FlatStages
pub mod FlatKeeps
pub mod FlatRanges
mod Typed
mod FlatTyped
mod TypedParts
pub mod FlatWidths
mod TypedTests
pub mod FlatCounts
pub mod FlatKinds
pub mod FlatShapes
pub mod FlatStands
pub mod FlatLasts
pub mod FlatAbsent
pub mod CallsKept
pub mod FlatRepeats
mod FlatForms
mod FlatInside
mod FlatReads
mod CopyReads
mod FlatOnce
pub mod FlatRaces
mod CopiedSizes
mod FlatVisits
mod FlatCopies
mod FlatOccurrences
pub mod FlatWeights
mod FlatIslandLimits
pub mod FlatDesignSizes
pub mod FlatStageSeven
mod RestingSeats
mod RestingTests
mod DryPorts
pub mod FlatRests
mod KeptRuns
mod KnownFaults
mod ToldRuns
mod FlatNames
mod ToldNames
pub mod RunnableLemmas
mod KeptForms
mod FlatPorts
mod FlatOwners
mod FlatApart
mod FlatLeads
mod FlatWeighs
mod FlatSound
mod FlatCells
mod FlatWellformed
pub mod FlatAccepted
pub mod WholeSteady
pub mod WholePlaces
