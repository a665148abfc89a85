pub mod AlongLaws
pub mod LimitLaws
pub mod MemberLaws
pub mod StepLaws
