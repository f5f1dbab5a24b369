pub mod FamilyLaws
pub mod KeptLaws
pub mod CountLaws
pub mod BridgeSetLaws
pub mod KeptFirstLaws
pub mod AloneLaws
pub mod GoneLaws
