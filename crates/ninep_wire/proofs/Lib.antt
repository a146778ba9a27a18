pub mod FieldLaws
pub mod ChangeLaws
pub mod MessageLaws
pub mod FrameLaws
pub mod NameLaws
pub mod WroteLaws
pub mod StatLaws
pub mod RMessageLaws
