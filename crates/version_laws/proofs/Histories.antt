-- Legal histories don't see versions beyond 2^32.
use Rattle.std.proofs.Common.{◌≡◌, Bool, true, false, cond, not, ◌&&◌, [], ◌∷◌, Option, Some, None, IsNone, MatchOption, is_some, refl, sym, ap, ap₂, ◌∙◌, subst, inl, inr}
use Rattle.std.specs.Option.{option_map, option_map_or, option_and_then}
use Rattle.tree_model.specs.declared.refusal.Refusal.{Refusal}
use Rattle.tree_model.specs.declared.refusal.Refusal.TheVariants as refusals
use Rattle.tree_model.specs.Rows.{Row, Rows, row_of}
use Rattle.tree_model.specs.Asked.{PlainRequest, look, walk, open_node, create, read, list, write, remove, stat_of, change, sync}
use Rattle.tree_model.specs.Step.{Answer, refuses, node_of, new_name, step, early_refusal}
use Rattle.tree_model.specs.History.{Made, answer_of, places, is_refusal, answer_in, rows_then, next, tally_at}
use Rattle.version_laws.specs.RowVersions.{wrapped_row, wrapped, PlacesAreSame, AnsweredInBoth, RowsThenAreSame, RowsAfterAreSame, AllAnsweredInBoth, LegalInBoth}
use Rattle.version_laws.proofs.Pieces.{row_seen}
use Rattle.version_laws.proofs.Steps.{steps_are_same, early_refusals_are_same}

places_at : (f : Row → Bool) → ((row : Row) → f (wrapped_row row) ≡ f row) → (o : Option Row) → option_map_or f (option_map wrapped_row o) false ≡ option_map_or f o false
places_at f alike None = refl
places_at f alike (Some row) = alike row

places_wrapped : (rows : Rows) (request : PlainRequest) → places (wrapped rows) request ≡ places rows request
places_wrapped rows (look n) = refl
places_wrapped rows (walk n names) = refl
places_wrapped rows (open_node n mode) = refl
places_wrapped rows (create n name is_dir mode) = refl
places_wrapped rows (read n at most) = refl
places_wrapped rows (list n after most) = refl
places_wrapped rows (write n at bytes) = refl
places_wrapped rows (remove n) = refl
places_wrapped rows (stat_of n) = refl
places_wrapped rows (change n c) =
    ap (λ (o : Option Row). option_map_or (λ (row : Row). is_some (new_name row c)) o false) (row_seen rows n)
    ∙ places_at (λ (row : Row). is_some (new_name row c)) (λ row. refl) (row_of rows n)
places_wrapped rows (sync n) = refl

pub places_are_same : PlacesAreSame
places_are_same a b request same = sym (places_wrapped a request) ∙ ap (λ (rows : Rows). places rows request) same ∙ places_wrapped b request

-- ---- one entry

answer_same : (a b : Rows) (made : Made) → wrapped a ≡ wrapped b → answer_in a made ≡ answer_in b made
answer_same a b made same =
    ap₂ (λ (placing : Bool) (said : Answer). cond (placing && not (is_refusal said.reply)) (option_map_or (λ path. refuses (refusals.PlaceTaken path)) made.taken said) said)
    (places_are_same a b made.asked.request same) (steps_are_same a b made.asked.request made.asked.second same).answer

none_early : (a b : Rows) (made : Made) → wrapped a ≡ wrapped b → IsNone (early_refusal a made.asked.request) → IsNone (early_refusal b made.asked.request)
none_early a b made same none = subst (λ (o : Option Refusal). IsNone o) (early_refusals_are_same a b made.asked.request same) none

pub answered_in_both : AnsweredInBoth
answered_in_both a b made same (inl is) = inl (is ∙ answer_same a b made same)
answered_in_both a b made same (inr (inl is)) = inr (inl (is.0, none_early a b made same is.1))
answered_in_both a b made same (inr (inr (inl is))) = inr (inr (inl (is.0, none_early a b made same is.1)))
answered_in_both a b made same (inr (inr (inr is))) =
    inr (inr (inr (is.0, λ removed. is.1 ((steps_are_same a b made.asked.request made.asked.second same).answer ∙ removed))))

then_by : (refuses : Bool) (a b a' b' : Rows) → wrapped a ≡ wrapped b → wrapped a' ≡ wrapped b' → wrapped (cond refuses a a') ≡ wrapped (cond refuses b b')
then_by true a b a' b' same same' = same
then_by false a b a' b' same same' = same'

pub rows_then_are_same : RowsThenAreSame
rows_then_are_same a b made same =
    then_by (is_refusal made.asked.reply) a b (step a made.asked.request made.asked.second).rows (step b made.asked.request made.asked.second).rows same
    (steps_are_same a b made.asked.request made.asked.second same).rows

-- ---- whole histories

pub rows_after_are_same : RowsAfterAreSame
rows_after_are_same a b [] same = same
rows_after_are_same a b (entry ∷ entries) same =
    rows_after_are_same (rows_then a entry.made) (rows_then b entry.made) entries (rows_then_are_same a b entry.made same)

pub all_answered_in_both : AllAnsweredInBoth
all_answered_in_both a b tally [] same are = tt
all_answered_in_both a b tally (entry ∷ entries) same are = (
  λ running. answered_in_both a b entry.made same (are.0 running),
  all_answered_in_both (rows_then a entry.made) (rows_then b entry.made) (next tally entry) entries (rows_then_are_same a b entry.made same) are.1,
)

pub legal_in_both : LegalInBoth
legal_in_both a b origin entries same legal = record {
  caused = legal.caused;
  answered = all_answered_in_both a b (tally_at origin) entries same legal.answered;
}
