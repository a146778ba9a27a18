-- What a deed is to its folder, by what was looked at.
use Rattle.std.specs.Prelude.{ℕ, Bool, Option, Some, None, nat_le, ◌==◌, if◌then◌else◌}
use Rattle.outside.specs.declared.folder.Kind.{Kind}
use Rattle.outside.specs.declared.folder.Kind.TheVariants.{Dir, File}
use Rattle.journal_mending.specs.declared.state.State.{State}
use Rattle.journal_mending.specs.declared.state.State.TheVariants.{Done, Due, Unfit}

-- to be done if this is so
abbrev pub due_if : Bool → State
due_if fits = if fits then Due else Unfit

-- done if this is so, and else to be done
abbrev pub done_if : Bool → State
done_if same = if same then Done else Due

-- a folder: what is at its path, and whether the folder above is there or comes to be
abbrev pub make_dir_state : Option Kind → Bool → State
make_dir_state (Some Dir) inside = Done
make_dir_state (Some (File len)) inside = Unfit
make_dir_state None inside = due_if inside

-- a file: how many bytes it has, what is at its path, whether that has its bytes, and whether the folder above is there or comes to be
abbrev pub put_state : ℕ → Option Kind → Bool → Bool → State
put_state count (Some Dir) same inside = Unfit
put_state count (Some (File len)) same inside = if nat_le len count then done_if same else Unfit
put_state count None same inside = due_if inside

-- a file that is moved: what is where it was and where it goes, where a file as long may be the same, and whether the folder above the latter is there
-- or comes to be
abbrev pub rename_state : Option Kind → Option Kind → Bool → State
rename_state (Some Dir) to inside = Unfit
rename_state (Some (File len)) (Some Dir) inside = Unfit
rename_state (Some (File len)) (Some (File other)) inside = due_if (len == other)
rename_state (Some (File len)) None inside = due_if inside
rename_state None (Some there) inside = Done
rename_state None None inside = Unfit

-- a file that is removed: what is at its path
abbrev pub remove_state : Option Kind → State
remove_state (Some Dir) = Unfit
remove_state (Some (File len)) = Due
remove_state None = Done

-- a folder that is removed: what is at its path, and whether it is empty or comes to be
abbrev pub remove_dir_state : Option Kind → Bool → State
remove_dir_state (Some Dir) bare = due_if bare
remove_dir_state (Some (File len)) bare = Unfit
remove_dir_state None bare = Done

-- a file that is reshaped: whether it can be, and whether it has that length and those bytes
abbrev pub reshape_state : Bool → Bool → State
reshape_state can same = if can then done_if same else Unfit
