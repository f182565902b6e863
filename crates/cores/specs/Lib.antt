-- What a set of cores is: one definition file, the list of its cores.
pub mod Cores
