pub mod FollowLaws
pub mod PartLaws
pub mod ArmLaws
pub mod StatementLaws
pub mod EndLaws
pub mod RunningLaws
pub mod WriteLaws
pub mod TurnLaws
