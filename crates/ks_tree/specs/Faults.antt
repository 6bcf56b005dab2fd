-- A tree's faults among the errors of a stamp.
use Rattle.ks_tree.specs.declared.fault.TreeFault.{TreeFault}
use Rattle.ks_tree.specs.declared.fault.TreeFault.TheVariants as fault
use Rattle.ks_tree.specs.declared.fault.TreeError.{TreeError}
use Rattle.ks_tree.specs.declared.fault.TreeError.TheVariants as error

abbrev pub error_of : TreeFault → TreeError
error_of fault.TooLarge = error.TooLarge
error_of fault.OutOfMemory = error.OutOfMemory
error_of fault.Device = error.Device
