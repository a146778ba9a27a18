-- A commit that failed has its cause: the folder's count of faults rose.
use Rattle.std.proofs.Common.{◌≡◌, ℕ, ◌≤◌, Bool, true, false, cond, List, [], ◌∷◌, Option, Some, IsNone, IsSome, refl, sym, subst, ◌∙◌, inl, inr, arith}
use Rattle.std.proofs.lemmas.Bool.{cases_lt, false_from_ne_true}
use Rattle.outside.specs.Calls.{Rose}
use Rattle.tree_model.specs.Asked.{PlainReply}
use Rattle.tree_model.specs.History.{Entry, Tally, next, after, HasCause, IsCaused, AreCaused}

-- a count that rose between two others
pub rose_within : (a b c d : ℕ) → a ≤ b → b ≤ c → c ≤ d → Rose b c → Rose a d
rose_within a b c d low amid high (inl rose) = inl (omega (arith, low, high, rose))
rose_within a b c d low amid high (inr full) = elim (cases_lt a d) [
  | inl less ↦ inl less
  | inr least ↦ inr (let same : d ≡ c = omega (arith, low, amid, high, least) in same ∙ full)
]

-- of the first entry whose commit failed
flagged : (tally : Tally) (entry : Entry) → IsNone tally.stopped → IsCaused tally entry → entry.made.commit_failed ≡ true → Rose entry.made.folder.before entry.made.folder.after
flagged tally entry running caused failed =
    subst (λ (reply : PlainReply). HasCause entry.made reply) (caused.flag failed).0 (caused.running running).0

-- and the store goes on after one whose commit didn't
whole_goes_on : (tally : Tally) (entry : Entry) → IsNone tally.stopped → entry.made.commit_failed ≡ false → IsNone (next tally entry).stopped
whole_goes_on tally entry running whole = subst (λ (b : Bool). IsNone (cond b (Some tally.count) tally.stopped)) (sym whole) running

-- as it does if the folder didn't fail in it
pub goes_on : (tally : Tally) (entry : Entry) → IsNone tally.stopped → IsCaused tally entry → (Rose entry.made.folder.before entry.made.folder.after → ⊥) → IsNone (next tally entry).stopped
goes_on tally entry running caused still =
    whole_goes_on tally entry running (false_from_ne_true entry.made.commit_failed (λ failed. still (flagged tally entry running caused failed)))

pub faults_rise : (tally : Tally) (entries : List Entry) → AreCaused tally entries → tally.folder_faults ≤ (after tally entries).folder_faults
faults_rise tally [] caused = omega arith
faults_rise tally (entry ∷ entries) caused =
    let more = faults_rise (next tally entry) entries caused.1 in
    omega (arith, caused.0.folder_since, caused.0.folder, more)

not_both : (o : Option ℕ) → IsNone o → IsSome o → ⊥
not_both o none some = absurd cc

-- by whether the first entry's commit failed
by_flag : (tally : Tally) (entry : Entry) (entries : List Entry) → IsNone tally.stopped → IsCaused tally entry → AreCaused (next tally entry) entries
    → (IsNone (next tally entry).stopped → Rose (next tally entry).folder_faults (after (next tally entry) entries).folder_faults)
    → (flag : Bool) → entry.made.commit_failed ≡ flag → Rose tally.folder_faults (after (next tally entry) entries).folder_faults
by_flag tally entry entries running caused more rose true failed =
    rose_within tally.folder_faults entry.made.folder.before entry.made.folder.after (after (next tally entry) entries).folder_faults
    caused.folder_since caused.folder (faults_rise (next tally entry) entries more) (flagged tally entry running caused failed)
by_flag tally entry entries running caused more rose false whole =
    rose_within tally.folder_faults entry.made.folder.after (after (next tally entry) entries).folder_faults (after (next tally entry) entries).folder_faults
    (omega (arith, caused.folder_since, caused.folder)) (faults_rise (next tally entry) entries more) (omega arith) (rose (whole_goes_on tally entry running whole))

-- in a history that stopped, the count rose
pub stopped_rose : (tally : Tally) (entries : List Entry) → IsNone tally.stopped → AreCaused tally entries → IsSome (after tally entries).stopped → Rose tally.folder_faults (after tally entries).folder_faults
stopped_rose tally [] running caused stopped = absurd (not_both tally.stopped running stopped)
stopped_rose tally (entry ∷ entries) running caused stopped =
    by_flag tally entry entries running caused.0 caused.1 (λ runs. stopped_rose (next tally entry) entries runs caused.1 stopped) entry.made.commit_failed refl
