pub mod FunctionizeLaws
pub mod ScalarFunctionizeLaws
pub mod VectorFunctionizeLaws
pub mod ObjFunctionizeLaws
pub mod RaisedLaws
pub mod VectorizeLaws
pub mod VectorizeVarLaws
pub mod ScalarizeLaws
