-- What objects tell at one time: their contents, if they tell them, and their counts. Each has a function that gives it of an
-- object, by what the object's trait tells.
use Rattle.std.specs.Prelude.{ℕ, List, Option}
use Rattle.outside.specs.Images.{Log}
use Rattle.outside.specs.declared.folder.Reads as reads
use Rattle.outside.specs.declared.entropy.Entropy as entropies
use Rattle.outside.specs.declared.link.Listener as listeners
use Rattle.outside.specs.declared.link.Link as links

-- a folder's log, its faults and its changing calls
pub record FolderView : Type 0 where
  pub log : Option Log
  pub faults : ℕ
  pub changes : ℕ

abbrev pub folder_in : {F : Type 0} → reads.Ghosts F → F → FolderView
folder_in by folder = record { log = by.log folder; faults = by.faults folder; changes = by.changes folder }

-- the bytes that a random source has given, and its faults
pub record EntropyView : Type 0 where
  pub drawn : Option (List ℕ)
  pub faults : ℕ

abbrev pub entropy_in : {E : Type 0} → entropies.Ghosts E → E → EntropyView
entropy_in by entropy = record { drawn = by.drawn entropy; faults = by.faults entropy }

-- the links that are to come to a listener, those that it was given back, and its faults
pub record ListenerView (Conn : Type 0) : Type 0 where
  pub to_come : Option (List Conn)
  pub given_back : Option (List Conn)
  pub faults : ℕ

abbrev pub listener_in : {N Conn : Type 0} → listeners.Ghosts N Conn → N → ListenerView Conn
listener_in by listener = record {
  to_come = by.to_come listener;
  given_back = by.given_back listener;
  faults = by.faults listener;
}

-- the bytes that are left to read from a link, those that it has taken, and its faults on each side
pub record LinkView : Type 0 where
  pub left : Option (List ℕ)
  pub taken : Option (List ℕ)
  pub read_faults : ℕ
  pub write_faults : ℕ

abbrev pub link_in : {L : Type 0} → links.Ghosts L → L → LinkView
link_in by link = record {
  left = by.left link;
  taken = by.taken link;
  read_faults = by.read_faults link;
  write_faults = by.write_faults link;
}
