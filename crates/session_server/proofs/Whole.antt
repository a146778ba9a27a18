-- Whole messages are cut apart in one way, so those of a talk begin those that were given.
use Rattle.std.proofs.Common.{◌≡◌, ℕ, ◌+◌, ◌^◌, ◌<◌, List, [], ◌∷◌, ◌++◌, length, take, drop, Option, Some, None, refl, sym, ap, subst, ◌∙◌, append_assoc, arith, inl, inr}
use Rattle.std.specs.List.{concat}
use Rattle.std.proofs.lemmas.List.{append-nil, length-append, nil_from_length}
use Rattle.std.proofs.lemmas.Option.{same_Some}
use Rattle.std.proofs.Math.Seq.{take-append_seam, drop-append_seam}
use Rattle.byteorder.specs.Numbers.{little_from-append}
use Rattle.outside.specs.Calls.{HasCause, Changes}
use Rattle.outside.specs.Views.{LinkView}
use Rattle.tree_model.specs.Asked.{Asked}
use Rattle.ninep_wire.specs.Reading.{IsFrame}
use Rattle.session_core.specs.State.{State, fresh}
use Rattle.session_core.specs.Session.{Exchanged}
use Rattle.session_server.specs.declared.ending.SessionEnd.{SessionEnd}
use Rattle.session_server.specs.declared.ending.SessionEnd.TheVariants.{Done, Cut, BadFrame, ReadFault, WriteFault, Limit, Memory}
use Rattle.session_server.specs.Talk.{Answered, size_of, IsSize, IsPart, EndsWith, EndsAfter, IsReadUp}
use Rattle.session_server.specs.Served.{TalkedOn}
use Rattle.session_server.specs.Whole.{AreFitting, IsWhole, IsFaultless, IsServedWhole}

-- ---- one message at the front

-- a message's size is what a text says that begins with it
size_ahead : (frame rest : List ℕ) → IsFrame frame → size_of (frame ++ rest) ≡ length frame
size_ahead frame rest framed = little_from-append 4 frame rest (omega (arith, framed.long)) ∙ framed.size

same_length : (x y xs ys : List ℕ) → IsFrame x → IsFrame y → x ++ xs ≡ y ++ ys → length x ≡ length y
same_length x y xs ys fx fy is = sym (size_ahead x xs fx) ∙ ap size_of is ∙ size_ahead y ys fy

-- two messages at the front of one text are the same
same_first : (x y xs ys : List ℕ) → IsFrame x → IsFrame y → x ++ xs ≡ y ++ ys → x ≡ y
same_first x y xs ys fx fy is =
    sym (take-append_seam x xs) ∙ ap (λ (n : ℕ). take n (x ++ xs)) (same_length x y xs ys fx fy is) ∙ ap (take (length y)) is ∙ take-append_seam y ys

-- and so is what follows them
same_rest : (x y xs ys : List ℕ) → IsFrame x → IsFrame y → x ++ xs ≡ y ++ ys → xs ≡ ys
same_rest x y xs ys fx fy is =
    sym (drop-append_seam x xs) ∙ ap (λ (n : ℕ). drop n (x ++ xs)) (same_length x y xs ys fx fy is) ∙ ap (drop (length y)) is ∙ drop-append_seam y ys

-- ---- the messages of a talk

-- the messages of which these were answered first: the others fit in the state by then, and a text is theirs
record Begins (messages answered : List (List ℕ)) (last : State) (text : List ℕ) : Type 0 where
  others : List (List ℕ)
  all : messages ≡ answered ++ others
  fitting : AreFitting last others
  joined : concat others ≡ text

begins : (s last : State) (answered messages : List (List ℕ)) (seconds : List ℕ) (asked : List Asked) (answers : List (List ℕ)) (text : List ℕ) → Answered s answered seconds asked answers last → AreFitting s messages
    → concat messages ≡ concat answered ++ text → Begins messages answered last text
begins s last [] messages seconds asked answers text done fitting is =
    record { others = messages; all = refl; fitting = subst (λ (t : State). AreFitting t messages) (sym done.3) fitting; joined = is }
begins s last (frame ∷ answered) [] seconds asked answers text done fitting is =
    let long : 0 ≡ length ((frame ++ concat answered) ++ text) = ap length is in
    absurd (omega (arith, done.framed.long, long, length-append (frame ++ concat answered) text, length-append frame (concat answered)))
begins s last (frame ∷ answered) (message ∷ messages) seconds asked answers text done fitting is =
    let whole : message ++ concat messages ≡ frame ++ (concat answered ++ text) = is ∙ append_assoc frame (concat answered) text in
    let same : message ≡ frame = same_first message frame (concat messages) (concat answered ++ text) fitting.framed done.framed whole in
    let exchanged : Exchanged s message done.second done.request done.answer done.next =
    subst (λ (f : List ℕ). Exchanged s f done.second done.request done.answer done.next) (sym same) done.exchanged
    in
    let rest : Begins messages answered last text =
    begins done.next last answered messages done.other_seconds done.others done.other_answers text done.rest
    (fitting.rest done.second done.request done.answer done.next exchanged)
    (same_rest message frame (concat messages) (concat answered ++ text) fitting.framed done.framed whole)
    in
    record {
      others = rest.others;
      all = ap (λ (m : List ℕ). m ∷ messages) same ∙ ap (λ (w : List (List ℕ)). frame ∷ w) rest.all;
      fitting = rest.fitting;
      joined = rest.joined;
    }

-- ---- by cases of the end

-- no bytes are no messages
no_others : (s : State) (others : List (List ℕ)) → AreFitting s others → concat others ≡ [] → others ≡ []
no_others s [] fitting is = refl
no_others s (o ∷ others) fitting is =
    let none : length (o ++ concat others) ≡ 0 = ap length is in
    absurd (omega (arith, fitting.framed.long, none, length-append o (concat others)))

-- whole messages are no part of one
no_part : (s : State) (others : List (List ℕ)) (rest : List ℕ) (wanted : ℕ) → AreFitting s others → concat others ≡ rest → 0 < length rest → IsPart s rest wanted → ⊥
no_part s [] rest wanted fitting is some part =
    let none : 0 ≡ length rest = ap length is in omega (arith, none, some)
no_part s (o ∷ others) rest wanted fitting is some (inl part) =
    let long : length (o ++ concat others) ≡ length rest = ap length is in
    omega (arith, fitting.framed.long, long, length-append o (concat others), part.0)
no_part s (o ∷ others) rest wanted fitting is some (inr part) =
    let long : length (o ++ concat others) ≡ length rest = ap length is in
    let size : size_of rest ≡ length o = ap size_of (sym is) ∙ size_ahead o (concat others) fitting.framed in
    omega (arith, long, size, length-append o (concat others), part.2)

-- the size of a whole message is a good one
no_bad_size : (s : State) (others : List (List ℕ)) (rest new : List ℕ) → AreFitting s others → concat others ≡ rest ++ new → length rest ≡ 4 → (IsSize s (size_of rest) → ⊥) → ⊥
no_bad_size s [] rest new fitting is four bad =
    let none : 0 ≡ length (rest ++ new) = ap length is in omega (arith, none, length-append rest new, four)
no_bad_size s (o ∷ others) rest new fitting is four bad =
    let size : size_of rest ≡ length o =
    sym (little_from-append 4 rest new (omega (arith, four))) ∙ ap size_of (sym is) ∙ size_ahead o (concat others) fitting.framed
    in
    bad (subst (λ (n : ℕ). IsSize s n) (sym size) (fitting.framed.long, fitting.fits))

-- what the end says, if the link told what was left before and after
served_at : (before after : LinkView) (end : SessionEnd) (messages answered : List (List ℕ)) (last : State) (rest new : List ℕ)
    → Begins messages answered last (rest ++ new) → length messages < 2 ^ 32 → before.left ≡ Some (concat messages) → after.left ≡ Some new
    → EndsWith last rest end → EndsAfter (length answered) end → IsReadUp end new
    → HasCause before.read_faults after.read_faults (end ≡ ReadFault) → HasCause before.write_faults after.write_faults (end ≡ WriteFault) → IsFaultless before after
    → IsServedWhole messages answered before after end
served_at before after Done messages answered last rest new b few was now ends count up reads writes faultless =
    let empty : concat b.others ≡ [] = b.joined ∙ ap (λ (r : List ℕ). r ++ new) ends ∙ up in (
      sym (b.all ∙ ap (λ (w : List (List ℕ)). answered ++ w) (no_others last b.others b.fitting empty) ∙ append-nil answered),
      now ∙ ap (λ (w : List ℕ). Some w) up,
    )
served_at before after (Cut had wanted) messages answered last rest new b few was now (some, had_is, part) count up reads writes faultless =
    let joined : concat b.others ≡ rest = b.joined ∙ ap (λ (w : List ℕ). rest ++ w) up ∙ append-nil rest in
    no_part last b.others rest wanted b.fitting joined some part
served_at before after (BadFrame size) messages answered last rest new b few was now (four, size_is, bad) count up reads writes faultless =
    no_bad_size last b.others rest new b.fitting b.joined four (λ good. bad (subst (λ (n : ℕ). IsSize last n) size_is good))
served_at before after ReadFault messages answered last rest new b few was now ends count up reads writes faultless =
    faultless.reads (reads.rose refl)
served_at before after WriteFault messages answered last rest new b few was now ends count up reads writes faultless =
    faultless.writes (writes.rose refl)
served_at before after Limit messages answered last rest new b few was now ends count up reads writes faultless =
    let long : length messages ≡ length answered + length b.others = ap length b.all ∙ length-append answered b.others in
    omega (arith, few, long, count)
served_at before after Memory messages answered last rest new b few was now ends count up reads writes faultless =
    let none : answered ≡ [] = nil_from_length answered count in
    let all : messages ≡ b.others = b.all ∙ ap (λ (w : List (List ℕ)). w ++ b.others) none in
    (none, now ∙ ap (λ (w : List ℕ). Some w) (sym (ap concat all ∙ b.joined ∙ ap (λ (r : List ℕ). r ++ new) ends)) ∙ sym was)

-- what was left before, as it is told: the talk's input, and what is left now
record IsLeft (left' : Option (List ℕ)) (whole input : List ℕ) (end : SessionEnd) : Type 0 where
  new : List ℕ
  told : left' ≡ Some new
  input_is : whole ≡ input ++ new
  read_up : IsReadUp end new

left_told : (left left' : Option (List ℕ)) (whole input : List ℕ) (end : SessionEnd) → left ≡ Some whole
    → Changes left left' (λ old new. (old ≡ input ++ new) × IsReadUp end new) → IsLeft left' whole input end
left_told None left' whole input end is read = absurd cc
left_told (Some old) None whole input end is read = absurd read
left_told (Some old) (Some new) whole input end is (input_is, read_up) =
    record { new = new; told = refl; input_is = sym (same_Some old whole is) ∙ input_is; read_up = read_up }

-- a session of whole messages over a link that never fails is done
pub served_whole : (before after : LinkView) (clock clock' : Option (ℕ → ℕ)) (end : SessionEnd) (asked : List Asked) (talked : TalkedOn before after clock clock' end asked) (whole : IsWhole before.left)
    → IsFaultless before after → IsServedWhole whole.messages talked.talk.frames before after end
served_whole before after clock clock' end asked talked whole faultless =
    let left = left_told before.left after.left (concat whole.messages) talked.input end whole.told talked.read in
    let talk = talked.talk in
    let joined : concat whole.messages ≡ concat talk.frames ++ (talk.rest ++ left.new) =
    left.input_is ∙ ap (λ (w : List ℕ). w ++ left.new) talk.input_is ∙ append_assoc (concat talk.frames) talk.rest left.new
    in
    served_at before after end whole.messages talk.frames talk.last talk.rest left.new
    (begins fresh talk.last talk.frames whole.messages talked.seconds asked talked.answers (talk.rest ++ left.new) talk.answered whole.fitting joined)
    whole.few whole.told left.told talk.ended talk.count left.read_up talked.read_fault talked.write_fault faultless
