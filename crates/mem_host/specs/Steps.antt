-- The steps that a host keeps, as those of its story.
use Rattle.std.specs.Prelude.{List, ◌++◌, Option, reverse, map as each_of}
use Rattle.std.specs.Option.{option_to_list}
use Rattle.outside.specs.Disk.{Path}
use Rattle.host_calls.specs.Names.{NameStep, MadeFolder, MadeFile, Moved, Dropped}
use Rattle.host_calls.specs.Bytes.{FileStep, Wrote, Cut}
use Rattle.mem_host.specs.declared.step.MemStep.{MemStep}
use Rattle.mem_host.specs.declared.step.MemStep.TheVariants as kept
use Rattle.mem_host.specs.declared.file.MemFileStep.{MemFileStep}
use Rattle.mem_host.specs.declared.file.MemFileStep.TheVariants as file_steps

abbrev pub step_of : MemStep → NameStep
step_of (kept.MadeFolder path) = MadeFolder path
step_of (kept.MadeFile path inode) = MadeFile path inode
step_of (kept.Moved from to) = Moved from to
step_of (kept.Dropped path) = Dropped path

-- the two folders that may be left to flush
abbrev pub folders_left : Option Path → Option Path → List Path
folders_left first second = option_to_list first ++ option_to_list second

abbrev pub file_step_of : MemFileStep → FileStep
file_step_of (file_steps.Wrote at bytes) = Wrote at bytes.items
file_step_of (file_steps.Cut n) = Cut n

-- the steps of a file, which are kept the oldest first
abbrev pub file_steps_of : List MemFileStep → List FileStep
file_steps_of steps = reverse (each_of file_step_of steps)
