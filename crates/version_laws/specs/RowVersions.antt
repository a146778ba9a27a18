-- Rows whose versions are modulo 2^32, as qids show them, and what can't tell two rows of the same such versions apart.
use Rattle.std.specs.Prelude.{◌≡◌, ℕ, ◌%◌, ◌^◌, List, map}
use Rattle.tree_model.specs.Rows.{Row, Rows}
use Rattle.tree_model.specs.Asked.{PlainRequest}
use Rattle.tree_model.specs.Step.{Stepped, step, early_refusal}
use Rattle.tree_model.specs.History.{Made, Entry, Origin, Tally, places, IsAnswered, AreAnswered, IsLegal, rows_then, rows_after}

abbrev pub wrapped_row : Row → Row
wrapped_row row = record row { version = row.version % 2 ^ 32 }

abbrev pub wrapped : Rows → Rows
wrapped rows = record rows { nodes = map wrapped_row rows.nodes }

-- the same answer, and rows that are the same but for versions beyond 2^32
pub record IsSameStep (a b : Stepped) : Type 0 where
  pub answer : a.answer ≡ b.answer
  pub rows : wrapped a.rows ≡ wrapped b.rows

abbrev pub StepsAreSame : Type 0
StepsAreSame = (a b : Rows) (request : PlainRequest) (second : ℕ) → wrapped a ≡ wrapped b → IsSameStep (step a request second) (step b request second)

abbrev pub EarlyRefusalsAreSame : Type 0
EarlyRefusalsAreSame = (a b : Rows) (request : PlainRequest) → wrapped a ≡ wrapped b → early_refusal a request ≡ early_refusal b request

abbrev pub PlacesAreSame : Type 0
PlacesAreSame = (a b : Rows) (request : PlainRequest) → wrapped a ≡ wrapped b → places a request ≡ places b request

abbrev pub AnsweredInBoth : Type 0
AnsweredInBoth = (a b : Rows) (made : Made) → wrapped a ≡ wrapped b → IsAnswered a made → IsAnswered b made

abbrev pub RowsThenAreSame : Type 0
RowsThenAreSame = (a b : Rows) (made : Made) → wrapped a ≡ wrapped b → wrapped (rows_then a made) ≡ wrapped (rows_then b made)

-- ---- whole histories

abbrev pub RowsAfterAreSame : Type 0
RowsAfterAreSame = (a b : Rows) (entries : List Entry) → wrapped a ≡ wrapped b → wrapped (rows_after a entries) ≡ wrapped (rows_after b entries)

abbrev pub AllAnsweredInBoth : Type 0
AllAnsweredInBoth = (a b : Rows) (tally : Tally) (entries : List Entry) → wrapped a ≡ wrapped b → AreAnswered a tally entries → AreAnswered b tally entries

abbrev pub LegalInBoth : Type 0
LegalInBoth = (a b : Rows) (origin : Origin) (entries : List Entry) → wrapped a ≡ wrapped b → IsLegal a origin entries → IsLegal b origin entries
