-- The errors of a folder as those of a scan.
use Rattle.outside.specs.declared.folder.FolderErr.{FolderErr}
use Rattle.outside.specs.declared.folder.FolderErr.TheVariants as folder
use Rattle.tree_loading.specs.declared.scan_fault.ScanErr.{ScanErr}
use Rattle.tree_loading.specs.declared.scan_fault.ScanErr.TheVariants.{Device, Memory}

abbrev pub scan_err_of : FolderErr → ScanErr
scan_err_of folder.Failed = Device
scan_err_of folder.Unfit = Device
scan_err_of folder.Memory = Memory
