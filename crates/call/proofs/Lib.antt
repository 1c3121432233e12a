pub mod ActLaws
pub mod AdmitLaws
pub mod CallLaws
pub mod FrameLaws
pub mod LeaveLaws
pub mod ThereLaws
pub mod WideLaws
