pub mod SlackLaws
pub mod ScalarSlackLaws
pub mod VectorSlackLaws
pub mod LaterLaws
pub mod ObjSlackLaws
