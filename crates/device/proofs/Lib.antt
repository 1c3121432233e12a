pub mod HeadLaws
pub mod JudgeLaws
pub mod CalledLaws
pub mod MeetLaws
pub mod HostLaws
