-- The turns of callers as entries of a history, and a tree that stands for them.
use Rattle.std.specs.Prelude.{List, [], None, false, flat_map, option_map, option_to_list}
use Rattle.tree_model.specs.Asked.{look, done}
use Rattle.tree_model.specs.Rows.{Rows}
use Rattle.tree_model.specs.History.{Made, Entry, Origin, entry_of}
use Rattle.turn_lock.specs.declared.history.Ended.{Ended}

-- the entries that turns made, in order; the caller of each is the seat whose turn it was
abbrev pub entries_in : List (Ended Made) → List Entry
entries_in turns = flat_map (λ turn. option_to_list (option_map (entry_of turn.by) turn.entry)) turns

-- A tree stands for turns: for the history of their entries, from rows and counts that it may begin with.
pub record StandsFor {T : Type 0} (start : Rows → Origin → Type 0) (stands : T → Rows → Origin → List Entry → Type 0) (tree : T) (turns : List (Ended Made)) : Type 0 where
  pub rows : Rows
  pub origin : Origin
  pub begins : start rows origin
  pub right : stands tree rows origin (entries_in turns)

-- what stands for a value of which there is none
abbrev pub blank : Made
blank = record {
  asked = record { request = look 0; second = 0; reply = done; bytes = [] };
  drawn = None;
  folder = record { before = 0; after = 0 };
  entropy = record { before = 0; after = 0 };
  commit_failed = false;
  taken = None;
  stable = 0;
  moment = 0;
}
