-- A journal with writes that wait, as clauses see it.
use Rattle.std.specs.Prelude.{List}
use Rattle.deeds.specs.Deeds.{PlainDeed}

-- the journal's folder, and what waits over it
pub record WriteBackView (D : Type 0) : Type 0 where
  pub folder : D
  pub waiting : List PlainDeed

-- over another folder
abbrev pub over : {D : Type 0} → D → WriteBackView D → WriteBackView D
over folder back = record { folder = folder; waiting = back.waiting }
