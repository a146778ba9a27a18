-- The errors of a folder and of a scan as those of loading.
use Rattle.outside.specs.declared.folder.FolderErr.{FolderErr}
use Rattle.outside.specs.declared.folder.FolderErr.TheVariants as folder
use Rattle.tree_loading.specs.declared.scan_fault.ScanErr.{ScanErr}
use Rattle.tree_loading.specs.declared.scan_fault.ScanErr.TheVariants as scan
use Rattle.tree_loading.specs.declared.load_fault.LoadErr.{LoadErr}
use Rattle.tree_loading.specs.declared.load_fault.LoadErr.TheVariants.{Device, Memory}

abbrev pub load_err_of : FolderErr → LoadErr
load_err_of folder.Failed = Device
load_err_of folder.Unfit = Device
load_err_of folder.Memory = Memory

abbrev pub load_err_from : ScanErr → LoadErr
load_err_from scan.Device = Device
load_err_from scan.Memory = Memory
