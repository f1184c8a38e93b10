pub mod Alone
pub mod AloneLaws
pub mod Calls
pub mod CallLaws
pub mod UnnamedLaws
pub mod SensingLaws
pub mod ExampleProvisoLaws
