pub mod DropRealsLaws
pub mod ZerosVarLaws
pub mod FreeVarLaws
pub mod SplitSetLaws
