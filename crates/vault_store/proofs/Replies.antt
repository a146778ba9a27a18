-- What a store may answer in the rows of its tree, and for which causes.
use Rattle.std.proofs.Common.{◌≡◌, ℕ, List, [], Bool, true, false, cond, not, ◌&&◌, Option, Some, None, refl, sym, ap, ◌∙◌, inl, inr}
use Rattle.std.specs.Option.{option_map_or}
use Rattle.outside.specs.Calls.{Rose}
use Rattle.outside.specs.Disk.{Disk, Path as HostPath}
use Rattle.tree_model.specs.declared.refusal.Refusal.{Refusal}
use Rattle.tree_model.specs.declared.refusal.Refusal.TheVariants as refusals
use Rattle.tree_model.specs.Rows.{Content, Rows}
use Rattle.tree_model.specs.Asked.{PlainRequest, look, walk, open_node, create, read, list, write, remove, stat_of, change, sync, refused, bytes_put, is_exhausted}
use Rattle.tree_model.specs.Step.{Answer, refuses, step}
use Rattle.tree_model.specs.History.{Made, answer_of, answer_where, is_refusal, is_stopped, places, HasCause, IsAnswered, MayPlace}
use Rattle.clear_tree.specs.Walk.{Sealing}
use Rattle.live_tree.specs.Held.{HeldTree, live_rows}
use Rattle.tree_answers.specs.Answers.{is_own}
use Rattle.node_changes.specs.Causes.{RefusalCause}
use Rattle.node_changes.specs.Changed.{StandsOn, IsStepAnswer, MayRefuse}

-- ---- the step's answer, by the place that is taken

never : {A : Type 0} (b : Bool) (x y : A) → cond (b && false) x y ≡ y
never true x y = refl
never false x y = refl

no_path : (b : Bool) (said : Answer) → cond b (option_map_or (λ (path : HostPath). refuses (refusals.PlaceTaken path)) None said) said ≡ said
no_path true said = refl
no_path false said = refl

-- of a refusal no place is asked for
pub said_refused : (rows : Rows) (request : PlainRequest) (taken : Option HostPath) (said : Answer) → is_refusal said.reply ≡ true → answer_where rows request taken said ≡ said
said_refused rows request taken said is =
    ap (λ (b : Bool). cond (places rows request && not b) (option_map_or (λ (path : HostPath). refuses (refusals.PlaceTaken path)) taken said) said) is
    ∙ never (places rows request) (option_map_or (λ (path : HostPath). refuses (refusals.PlaceTaken path)) taken said) said

pub said_untaken : (rows : Rows) (request : PlainRequest) (taken : Option HostPath) (said : Answer) → taken ≡ None → answer_where rows request taken said ≡ said
said_untaken rows request taken said none =
    ap (λ (o : Option HostPath). answer_where rows request o said) none ∙ no_path (places rows request && not (is_refusal said.reply)) said

pub said_unplaced : (rows : Rows) (request : PlainRequest) (taken : Option HostPath) (said : Answer) → places rows request ≡ false → answer_where rows request taken said ≡ said
said_unplaced rows request taken said is =
    ap (λ (b : Bool). cond (b && not (is_refusal said.reply)) (option_map_or (λ (path : HostPath). refuses (refusals.PlaceTaken path)) taken said) said) is

pub said_taken : (rows : Rows) (request : PlainRequest) (taken : Option HostPath) (said : Answer) (path : HostPath) → places rows request ≡ true → is_refusal said.reply ≡ false → taken ≡ Some path
    → answer_where rows request taken said ≡ refuses (refusals.PlaceTaken path)
said_taken rows request taken said path is accepted some =
    ap (λ (b : Bool). cond (b && not (is_refusal said.reply)) (option_map_or (λ (path : HostPath). refuses (refusals.PlaceTaken path)) taken said) said) is
    ∙ ap (λ (b : Bool). cond (not b) (option_map_or (λ (path : HostPath). refuses (refusals.PlaceTaken path)) taken said) said) accepted
    ∙ ap (λ (o : Option HostPath). option_map_or (λ (path : HostPath). refuses (refusals.PlaceTaken path)) o said) some

-- ---- refusals

-- a refusal puts no bytes
pub no_bytes : (request : PlainRequest) (refusal : Refusal) (buffer : List ℕ) → bytes_put request (refused refusal) buffer ≡ []
no_bytes (look n) refusal buffer = refl
no_bytes (walk n names) refusal buffer = refl
no_bytes (open_node n mode) refusal buffer = refl
no_bytes (create n name is_dir mode) refusal buffer = refl
no_bytes (read n at most) refusal buffer = refl
no_bytes (list n after most) refusal buffer = refl
no_bytes (write n at bytes) refusal buffer = refl
no_bytes (remove n) refusal buffer = refl
no_bytes (stat_of n) refusal buffer = refl
no_bytes (change n c) refusal buffer = refl
no_bytes (sync n) refusal buffer = refl

-- the place that a refusal names
abbrev pub named_place : Refusal → Option HostPath
named_place (refusals.PlaceTaken path) = Some path
named_place refusal = None

-- a refusal of the tree's own needs no cause
pub own_cause : (request : PlainRequest) (folder entropy : Type 0) (refusal : Refusal) → is_own refusal ≡ true → RefusalCause request folder entropy refusal
own_cause request folder entropy refusals.DeviceFault own = absurd cc
own_cause request folder entropy refusals.RandomFault own = absurd cc
own_cause request folder entropy refusals.OutOfMemory own = absurd cc
own_cause request folder entropy (refusals.PlaceTaken path) own = absurd cc
own_cause request folder entropy (refusals.Stopped f) own = absurd cc
own_cause request folder entropy (refusals.Exhausted ticket) own = absurd cc
own_cause request folder entropy refusal own = tt

-- and is answered if the step answers it
pub own_may : (s : Sealing) (request : PlainRequest) (second : ℕ) (taken : Option HostPath) (refusal : Refusal) (d : Disk) (live : HeldTree) (claims : List (List ℕ × ℕ)) → is_own refusal ≡ true
    → IsStepAnswer s request second (refuses refusal) d live claims → MayRefuse s request second taken refusal d live claims
own_may s request second taken refusals.DeviceFault d live claims own is = absurd cc
own_may s request second taken refusals.RandomFault d live claims own is = absurd cc
own_may s request second taken refusals.OutOfMemory d live claims own is = absurd cc
own_may s request second taken (refusals.PlaceTaken path) d live claims own is = absurd cc
own_may s request second taken refusal d live claims own is = is

-- what a history asks of a refusal
pub has_cause : (made : Made) (refusal : Refusal) → RefusalCause made.asked.request (Rose made.folder.before made.folder.after) (Rose made.entropy.before made.entropy.after) refusal
    → (MayPlace made.asked.request → (path : HostPath) → refusal ≡ refusals.PlaceTaken path → made.taken ≡ Some path) → HasCause made (refused refusal)
has_cause made refusals.DeviceFault cause taken = cause
has_cause made refusals.RandomFault cause taken = cause
has_cause made refusals.OutOfMemory cause taken = cause
has_cause made (refusals.PlaceTaken path) cause taken = (cause, taken cause path refl)
has_cause made (refusals.Stopped f) cause taken = absurd cause
has_cause made (refusals.Exhausted ticket) cause taken = absurd cause
has_cause made refusal cause taken = tt

pub not_stopped : (request : PlainRequest) (folder entropy : Type 0) (refusal : Refusal) → RefusalCause request folder entropy refusal → is_stopped (refused refusal) ≡ false
not_stopped request folder entropy (refusals.Stopped f) cause = absurd cause
not_stopped request folder entropy refusal cause = refl

-- a refusal with a cause is never that the caller has no turn left
pub enters : (request : PlainRequest) (folder entropy : Type 0) (refusal : Refusal) → RefusalCause request folder entropy refusal → is_exhausted (refused refusal) ≡ false
enters request folder entropy (refusals.Exhausted ticket) cause = absurd cause
enters request folder entropy refusal cause = refl

-- a refusal that may come is one that a store may answer
pub may_refuse : (s : Sealing) (d : Disk) (live : HeldTree) (claims : List (List ℕ × ℕ)) (contents : ℕ → Content) (made : Made) (refusal : Refusal) → StandsOn s d live claims contents → answer_of made ≡ refuses refusal
    → ((path : HostPath) → refusal ≡ refusals.PlaceTaken path → places (live_rows contents live) made.asked.request ≡ true)
    → MayRefuse s made.asked.request made.asked.second made.taken refusal d live claims → IsAnswered (live_rows contents live) made
may_refuse s d live claims contents made refusals.DeviceFault stands same placed may = inr (inl (same, may contents stands))
may_refuse s d live claims contents made refusals.RandomFault stands same placed may = inr (inr (inl (same, may contents stands)))
may_refuse s d live claims contents made refusals.OutOfMemory stands same placed may = inr (inr (inr (same, may contents stands)))
may_refuse s d live claims contents made (refusals.PlaceTaken path) stands same placed may =
    inl (same ∙ sym (said_taken (live_rows contents live) made.asked.request made.taken (step (live_rows contents live) made.asked.request made.asked.second).answer path (placed path refl) (may.1 contents stands) may.0))
may_refuse s d live claims contents made refusal stands same placed may =
    inl (same ∙ sym (may contents stands)
    ∙ sym (said_refused (live_rows contents live) made.asked.request made.taken (step (live_rows contents live) made.asked.request made.asked.second).answer (ap (λ (a : Answer). is_refusal a.reply) (may contents stands))))
