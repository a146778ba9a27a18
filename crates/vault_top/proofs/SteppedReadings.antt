-- If nothing failed, a vault that is only read answers as the step says.
use Rattle.std.proofs.Common.{◌≡◌, ◌⊎◌, Bool, false, cond, ◌&&◌, not, List, [], ◌∷◌, IsNone, refl, ap, subst, ◌∙◌, inl, inr}
use Rattle.std.specs.Option.{option_map_or}
use Rattle.tree_model.specs.declared.refusal.Refusal.{Refusal}
use Rattle.tree_model.specs.declared.refusal.Refusal.TheVariants as refusals
use Rattle.tree_model.specs.Rows.{Rows}
use Rattle.tree_model.specs.Asked.{PlainReply, PlainRequest, look, walk, open_node, create, read, list, write, remove, stat_of, change, sync, refused}
use Rattle.tree_model.specs.Step.{Answer, IsReading, refuses, step}
use Rattle.tree_model.specs.History.{Made, Entry, Tally, next, answer_in, answer_of, is_refusal, places, HasCause, IsAnswered, AreCaused, MayLackMemory}
use Rattle.tree_model.specs.Laws.{IsFaultless, AreFaultless}
use Rattle.vault_store.specs.ReadOnly.{AreViewed}
use Rattle.vault_top.specs.ReadOnly.{AreSteppedReadings}
use Rattle.vault_top.proofs.Faults.{goes_on}

-- a request that changes nothing puts no node at a new place
reading_places : (rows : Rows) (request : PlainRequest) → IsReading request → places rows request ≡ false
reading_places rows (look n) reads = refl
reading_places rows (walk n names) reads = refl
reading_places rows (open_node n mode) reads = refl
reading_places rows (create n name is_dir mode) reads = absurd reads
reading_places rows (read n at most) reads = refl
reading_places rows (list n after most) reads = refl
reading_places rows (write n at bytes) reads = absurd reads
reading_places rows (remove n) reads = absurd reads
reading_places rows (stat_of n) reads = refl
reading_places rows (change n c) reads = absurd reads
reading_places rows (sync n) reads = refl

reading_answer : (rows : Rows) (made : Made) → IsReading made.asked.request → answer_in rows made ≡ (step rows made.asked.request made.asked.second).answer
reading_answer rows made reads =
    let said = (step rows made.asked.request made.asked.second).answer in
    ap (λ (b : Bool). cond (b && not (is_refusal said.reply)) (option_map_or (λ path. refuses (refusals.PlaceTaken path)) made.taken said) said) (reading_places rows made.asked.request reads)

-- the cause of a refusal that was answered
refused_for : (made : Made) (refusal : Refusal) → answer_of made ≡ refuses refusal → HasCause made made.asked.reply → HasCause made (refused refusal)
refused_for made refusal is = subst (λ (reply : PlainReply). HasCause made reply) (ap (λ (a : Answer). a.reply) is)

reading_stepped : (rows : Rows) (made : Made) → HasCause made made.asked.reply → IsFaultless made → IsReading made.asked.request → IsAnswered rows made
    → (answer_of made ≡ (step rows made.asked.request made.asked.second).answer) ⊎ ((answer_of made ≡ refuses refusals.OutOfMemory) × MayLackMemory made.asked.request)
reading_stepped rows made cause faultless reads (inl is) = inl (is ∙ reading_answer rows made reads)
reading_stepped rows made cause faultless reads (inr (inl is)) = absurd (faultless.folder (refused_for made refusals.DeviceFault is.0 cause))
reading_stepped rows made cause faultless reads (inr (inr (inl is))) = absurd (faultless.entropy (refused_for made refusals.RandomFault is.0 cause))
reading_stepped rows made cause faultless reads (inr (inr (inr is))) = inr (is.0, refused_for made refusals.OutOfMemory is.0 cause)

pub readings_stepped : (rows : Rows) (tally : Tally) (entries : List Entry) → IsNone tally.stopped → AreCaused tally entries → AreFaultless entries → AreViewed rows entries → AreSteppedReadings rows entries
readings_stepped rows tally [] running caused faultless viewed = tt
readings_stepped rows tally (entry ∷ entries) running caused faultless viewed = (
  λ reads. reading_stepped rows entry.made (caused.0.running running).0 faultless.0 reads (viewed.0.reading reads),
  readings_stepped rows (next tally entry) entries (goes_on tally entry running caused.0 faultless.0.folder) caused.1 faultless.1 viewed.1,
)
