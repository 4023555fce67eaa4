pub mod RunLaws
pub mod CallLaws
pub mod WaitingLaws
pub mod SweepLaws
pub mod PerformLaws
pub mod ListedLaws
pub mod Each
pub mod EachLaws
pub mod Walks
pub mod PlanWalks
pub mod CallWalks
pub mod Lists
pub mod Listing
mod Worked
mod SelectionAsks
pub mod KnownAt
pub mod Relisted
pub mod ListTurns
pub mod Unlisted
pub mod ListedBy
pub mod ToldLaws
pub mod ToldParts
pub mod BeginLaws
pub mod SelectionLaws
pub mod UnmarkedLaws
pub mod OrderLaws
pub mod OwnActs
pub mod StandLaws
pub mod LookedLaws
pub mod GoneLaws
pub mod ClosedLaws
pub mod PinBack
pub mod WaitingWalks
pub mod PinLaws
pub mod WorksLaws
mod ValidKeys
mod MarkedLaws
mod WhereUntouched
mod Shown
mod EndListed
mod OwnSteps
mod ListAsks
pub mod GoneListed
pub mod Enlisted
mod IndexOutcomes
mod StoodMoments
mod StoodLaws
mod Touched
mod CountsBelow
mod BoundEvents
mod BoundMarks
mod BoundParts
mod BoundLaws
mod BoundLists
mod MarkedListed
mod ValidListed
mod ValidLooked
