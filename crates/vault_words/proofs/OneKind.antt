-- The kinds of an error agree on a request: if help or the version is among the kinds that are possible, no other kind is. A step
-- fails by one kind at most, and a parse by its first step that fails. Two places give more than one kind: a word that nothing takes,
-- of which neither kind is a request, and `help` as a subcommand, which a command may disable.
use Rattle.std.proofs.Common.{◌≡◌, ◌⊎◌, ◌&&◌, ◌||◌, ◌==◌, ◌+◌, ℕ, zero, suc, Bool, true, false, not, List, [], ◌∷◌, Option, Some, None, is_some, length, drop, codes, inl, inr, refl}
use Rattle.std.specs.Prelude.{encode_utf8, find, if◌then◌else◌, min, nat_lt, slice_get}
use Rattle.std.specs.Option.{option_map_or}
use Rattle.std.specs.Str.{bytes_eq, chars}
use Rattle.clap.specs.Facts.{parser_of_value, unwrap_or_range}
use Rattle.clap.specs.Faults.{action_fault, bundle_fault, bundle_step_fault, check_fault, count_fault, default_fault, defaults_fault, entered_fault, fault_of, flag_word_fault, flags_fault, given_default_fault, level_fault, long_fault, option_fault, other_fault, positional_fault, react_fault, repeat_fault, set_fault, settle_fault, short_fault, step_fault, stray_fault, turn_fault, use_fault, values_fault, walk_fault, word_fault}
use Rattle.clap.specs.Kinds.{IsAmong, Kinds, check_kinds, or_else, range_kinds, request_kinds, value_kinds, values_kinds}
use Rattle.clap.specs.Simple.{App, Shape, argument_words, built, entered, label_of, names_of}
use Rattle.clap.specs.Values.{refused_kind}
use Rattle.clap.specs.ValueTests.{accepts}
use Rattle.clap.specs.Walk.{Held, Names, Row, Rule, Step, Text, Waiting, Walk, action_of, answers_to, arg_by_id, arg_by_index, arg_by_long, arg_by_short, attached_value, count_of, finished, has_row, idle, is_empty, is_pending, most_values, next, nothing_held, option, positional, reacted, settled, subcommand, subcommand_met, takes_several, takes_values, trailing, value, values_or_missing, walk, walk_from, walked, with_default, word_met}
use Rattle.clap.specs.Lexer.{long_of, short_of}
use Rattle.clap.specs.Matches.{count_text}
use Rattle.clap.specs.declared.builder.action.ArgAction.{ArgAction}
use Rattle.clap.specs.declared.builder.action.ArgAction.TheVariants.{Set, Append, SetTrue, SetFalse, Count, Help, HelpShort, HelpLong, Version}
use Rattle.clap.specs.declared.builder.value_parser.ValueParser.{ValueParser}
use Rattle.clap.specs.declared.error.kind.ErrorKind.{ErrorKind}
use Rattle.clap.specs.declared.error.kind.ErrorKind.TheVariants as kind
use Rattle.vault_words.specs.Jobs.{IsRequest}

-- a request that is among the kinds is each of them
abbrev pub OneKind : Kinds → Type 0
OneKind kinds = (k j : ErrorKind) → IsAmong k kinds → IsAmong j kinds → IsRequest k → j ≡ k

-- ---- none, one, and one after the other

pub one_kind-none : OneKind []
one_kind-none k j h g is = absurd h

pub one_kind-single : (x : ErrorKind) → OneKind (x ∷ [])
one_kind-single x k j (inl h) (inl g) is = cc
one_kind-single x k j (inl h) (inr g) is = absurd g
one_kind-single x k j (inr h) g is = absurd h

pub one_kind-or_else : (first second : Kinds) → OneKind first → OneKind second → OneKind (or_else first second)
one_kind-or_else [] second p q = q
one_kind-or_else (x ∷ xs) second p q = p

pub one_kind-if : (b : Bool) (first second : Kinds) → OneKind first → OneKind second → OneKind (if b then first else second)
one_kind-if true first second p q = p
one_kind-if false first second p q = q

pub one_kind-only_if : (b : Bool) (x : ErrorKind) → OneKind (if b then x ∷ [] else [])
one_kind-only_if b x = one_kind-if b (x ∷ []) [] (one_kind-single x) one_kind-none

pub one_kind-unless : (b : Bool) (kinds : Kinds) → OneKind kinds → OneKind (if b then [] else kinds)
one_kind-unless b kinds p = one_kind-if b [] kinds one_kind-none p

-- if something may be there
pub one_kind-option : {A : Type 0} (f : A → Kinds) (none : Kinds) (o : Option A) → ((a : A) → OneKind (f a)) → OneKind none
    → OneKind (option_map_or f o none)
one_kind-option f none None p q = q
one_kind-option f none (Some a) p q = p a

-- ---- one use of an argument

pub one_kind-value : (ignore_case : Bool) (parser : ValueParser) (text : Text) → OneKind (value_kinds ignore_case parser text)
one_kind-value ignore_case parser text =
    one_kind-unless (accepts ignore_case parser text) (refused_kind parser ∷ []) (one_kind-single (refused_kind parser))

pub one_kind-values : (ignore_case : Bool) (parser : ValueParser) (values : List Text) → OneKind (values_kinds ignore_case parser values)
one_kind-values ignore_case parser [] = one_kind-none
one_kind-values ignore_case parser (v ∷ vs) =
    one_kind-or_else (value_kinds ignore_case parser v) (values_kinds ignore_case parser vs) (one_kind-value ignore_case parser v)
    (one_kind-values ignore_case parser vs)

pub one_kind-range : (least most n : ℕ) → OneKind (range_kinds least most n)
one_kind-range least most n =
    one_kind-if (nat_lt 0 least && n == 0) (kind.InvalidValue ∷ []) _ (one_kind-single kind.InvalidValue)
    (one_kind-if (least == most) _ _ (one_kind-unless (least == n) (kind.WrongNumberOfValues ∷ []) (one_kind-single kind.WrongNumberOfValues))
    (one_kind-if (nat_lt n least) (kind.TooFewValues ∷ []) _ (one_kind-single kind.TooFewValues) (one_kind-only_if (nat_lt most n) kind.TooManyValues)))

pub one_kind-request : (action : ArgAction) → OneKind (request_kinds action)
one_kind-request Set = one_kind-none
one_kind-request Append = one_kind-none
one_kind-request SetTrue = one_kind-none
one_kind-request SetFalse = one_kind-none
one_kind-request Count = one_kind-none
one_kind-request Help = one_kind-single kind.DisplayHelp
one_kind-request HelpShort = one_kind-single kind.DisplayHelp
one_kind-request HelpLong = one_kind-single kind.DisplayHelp
one_kind-request Version = one_kind-single kind.DisplayVersion

pub one_kind-values_fault : (a : Rule) (values : List Text) → OneKind (values_fault a values)
one_kind-values_fault a values = one_kind-values a.ignore_case (parser_of_value a.parser) values

pub one_kind-count : (a : Rule) (values : List Text) (rows : List Row) → OneKind (count_fault a values rows)
one_kind-count a [] rows = one_kind-value a.ignore_case (parser_of_value a.parser) (count_text (min (count_of a.id rows + 1) 255))
one_kind-count a (v ∷ vs) rows = one_kind-values_fault a (v ∷ vs)

pub one_kind-set : (again : Bool) (a : Rule) (values : List Text) (rows : List Row) → OneKind (set_fault again a values rows)
one_kind-set again a values rows =
    one_kind-or_else (repeat_fault again a.id rows) (values_fault a values)
    (one_kind-only_if (has_row a.id rows && not again) kind.ArgumentConflict) (one_kind-values_fault a values)

pub one_kind-action : (action : ArgAction) (again : Bool) (a : Rule) (values : List Text) (rows : List Row)
    → OneKind (action_fault action again a values rows)
one_kind-action Set again a values rows = one_kind-set again a values rows
one_kind-action SetTrue again a values rows = one_kind-set again a values rows
one_kind-action SetFalse again a values rows = one_kind-set again a values rows
one_kind-action Append again a values rows = one_kind-values_fault a values
one_kind-action Count again a values rows = one_kind-count a values rows
one_kind-action Help again a values rows = one_kind-request Help
one_kind-action HelpShort again a values rows = one_kind-request HelpShort
one_kind-action HelpLong again a values rows = one_kind-request HelpLong
one_kind-action Version again a values rows = one_kind-request Version

pub one_kind-use : (again : Bool) (a : Rule) (values : List Text) (rows : List Row) → OneKind (use_fault again a values rows)
one_kind-use again a values rows =
    one_kind-or_else (range_kinds (unwrap_or_range a.range).start_inclusive (most_values a) (length values))
    (action_fault (action_of a) again a (values_or_missing a values) rows)
    (one_kind-range (unwrap_or_range a.range).start_inclusive (most_values a) (length values))
    (one_kind-action (action_of a) again a (values_or_missing a values) rows)

-- ---- a word of flags

pub one_kind-settle : (c : List Rule) (again : Bool) (h : Held) → OneKind (settle_fault c again h)
one_kind-settle c again h =
    one_kind-option (λ (p : Text × List Text). option_map_or (λ a. use_fault again a p.1 h.rows) (arg_by_id c p.0) []) [] h.pending
    (λ p. one_kind-option (λ a. use_fault again a p.1 h.rows) [] (arg_by_id c p.0) (λ a. one_kind-use again a p.1 h.rows) one_kind-none) one_kind-none

pub one_kind-react : (c : List Rule) (again : Bool) (a : Rule) (values : List Text) (h : Held) → OneKind (react_fault c again a values h)
one_kind-react c again a values h =
    one_kind-or_else (settle_fault c again h) (use_fault again a values (settled c h).rows) (one_kind-settle c again h)
    (one_kind-use again a values (settled c h).rows)

pub one_kind-option_fault : (c : List Rule) (again : Bool) (a : Rule) (v : Option Text) (h : Held) → OneKind (option_fault c again a v h)
one_kind-option_fault c again a (Some v) h = one_kind-react c again a (v ∷ []) h
one_kind-option_fault c again a None h = one_kind-settle c again h

pub one_kind-long : (c : List Rule) (again : Bool) (found : Option Rule) (v : Option Text) (h : Held) → OneKind (long_fault c again found v h)
one_kind-long c again None v h = one_kind-single kind.UnknownArgument
one_kind-long c again (Some a) v h =
    one_kind-if (takes_values a) (option_fault c again a v h) _ (one_kind-option_fault c again a v h)
    (one_kind-if (is_some v) (kind.TooManyValues ∷ []) (react_fault c again a [] h) (one_kind-single kind.TooManyValues)
    (one_kind-react c again a [] h))

pub one_kind-short : (c : List Rule) (again : Bool) (found : Option Rule) (rest : Text) (h : Held) (later : Held → Kinds)
    → ((t : Held) → OneKind (later t)) → OneKind (short_fault c again found rest h later)
one_kind-short c again None rest h later p = one_kind-single kind.UnknownArgument
one_kind-short c again (Some a) rest h later p =
    one_kind-if (takes_values a) (option_fault c again a (attached_value rest) h) (or_else (react_fault c again a [] h) (later (reacted c a [] h)))
    (one_kind-option_fault c again a (attached_value rest) h)
    (one_kind-or_else (react_fault c again a [] h) (later (reacted c a [] h)) (one_kind-react c again a [] h) (p (reacted c a [] h)))

pub one_kind-bundle_step : (c : List Rule) (again : Bool) (x : Option ℕ) (flags : Text) (skip : ℕ) (h : Held) (later : Text → ℕ → Held → Kinds)
    → ((rest : Text) (n : ℕ) (t : Held) → OneKind (later rest n t)) → OneKind (bundle_step_fault c again x flags skip h later)
one_kind-bundle_step c again None flags skip h later p = one_kind-none
one_kind-bundle_step c again (Some x) flags zero h later p =
    let rest = drop (length (encode_utf8 x)) flags in
    one_kind-short c again (arg_by_short c x) rest h (later rest 0) (p rest 0)
one_kind-bundle_step c again (Some x) flags (suc skip) h later p = p (drop (length (encode_utf8 x)) flags) skip h

pub one_kind-flags : (c : List Rule) (again : Bool) (k : ℕ) (flags : Text) (skip : ℕ) (h : Held) → OneKind (flags_fault c again k flags skip h)
unfolding flags_fault
one_kind-flags c again zero flags skip h = one_kind-none
one_kind-flags c again (suc k) flags skip h =
    one_kind-bundle_step c again (slice_get (chars flags) 0) flags skip h (flags_fault c again k) (one_kind-flags c again k)

pub one_kind-bundle : (c : List Rule) (again : Bool) (flags : Text) (h : Held) → OneKind (bundle_fault c again flags h)
one_kind-bundle c again flags h = one_kind-flags c again (length flags) flags h.skip (record h { skip = 0 })

pub one_kind-flag_word : (c : List Rule) (again : Bool) (long : Option (Text × Option Text)) (word : Text) (h : Held)
    → OneKind (flag_word_fault c again long word h)
one_kind-flag_word c again (Some p) word h = one_kind-long c again (arg_by_long c p.0) p.1 h
one_kind-flag_word c again None word h =
    one_kind-option (λ flags. bundle_fault c again flags h) [] (short_of word) (λ flags. one_kind-bundle c again flags h) one_kind-none

-- ---- a word

-- no word is `help` as a subcommand: it is disabled, or no word names a subcommand
abbrev pub HasNoHelp : Shape → Names → Type 0
HasNoHelp s names = (s.disable_help_subcommand ≡ true) ⊎ (names ≡ [])

-- if no subcommand is named, none is met
pub none_met : (waiting : Waiting) (word : Text) → subcommand_met [] waiting word ≡ None
none_met idle word = refl
none_met (option id) word = refl
none_met positional word = refl

pub one_kind-no_subcommand : (s : Shape) (word : Text) (h : Held) → OneKind (other_fault s None word h)
one_kind-no_subcommand s word h =
    one_kind-unless (bytes_eq word (45 ∷ 45 ∷ [])) (flag_word_fault s.rules s.args_override_self (long_of word) word h)
    (one_kind-flag_word s.rules s.args_override_self (long_of word) word h)

-- a subcommand is met without a fault, if `help` is none
pub one_kind-subcommand : (s : Shape) (met : Option Text) (word : Text) (h : Held) → s.disable_help_subcommand ≡ true
    → OneKind (other_fault s met word h)
one_kind-subcommand s None word h disabled = one_kind-no_subcommand s word h
one_kind-subcommand s (Some name) word h disabled = rw disabled (neither (bytes_eq name (codes "help")))
  where
    neither : (b : Bool) → OneKind (if b && false then kind.DisplayHelp ∷ kind.InvalidSubcommand ∷ [] else [])
    neither true = one_kind-none
    neither false = one_kind-none

pub one_kind-other : (s : Shape) (names : Names) (waiting : Waiting) (word : Text) (h : Held) → HasNoHelp s names
    → OneKind (other_fault s (subcommand_met names waiting word) word h)
one_kind-other s names waiting word h (inl disabled) = one_kind-subcommand s (subcommand_met names waiting word) word h disabled
one_kind-other s names waiting word h (inr leaf) = rw (leaf, none_met waiting word) (one_kind-no_subcommand s word h)

pub one_kind-word : (s : Shape) (names : Names) (is_trailing : Bool) (waiting : Waiting) (word : Text) (h : Held) → HasNoHelp s names
    → OneKind (word_fault s names is_trailing waiting word h)
one_kind-word s names is_trailing waiting word h no_help =
    one_kind-unless is_trailing (other_fault s (subcommand_met names waiting word) word h) (one_kind-other s names waiting word h no_help)

pub one_kind-positional : (c : List Rule) (again : Bool) (a : Rule) (h : Held) → OneKind (positional_fault c again a h)
one_kind-positional c again a h =
    one_kind-unless (is_pending a h.pending && takes_several a) (settle_fault c again h) (one_kind-settle c again h)

-- neither kind of a word that nothing takes is a request
pub no_request : (k j : ErrorKind) → IsAmong k (kind.UnknownArgument ∷ kind.InvalidSubcommand ∷ []) → IsRequest k → j ≡ k
no_request k j (inl h) (inl is) = cc
no_request k j (inl h) (inr is) = cc
no_request k j (inr (inl h)) (inl is) = cc
no_request k j (inr (inl h)) (inr is) = cc
no_request k j (inr (inr h)) is = absurd h

pub one_kind-stray : (s : Shape) → OneKind (stray_fault s)
one_kind-stray s =
    one_kind-if s.is_leaf (kind.UnknownArgument ∷ []) (kind.UnknownArgument ∷ kind.InvalidSubcommand ∷ []) (one_kind-single kind.UnknownArgument)
    (λ k j h g is. no_request k j h is)

pub one_kind-step : (s : Shape) (position : ℕ) (h : Held) (step : Step) → OneKind (step_fault s position h step)
one_kind-step s position h (next waiting) = one_kind-none
one_kind-step s position h (trailing n) = one_kind-none
one_kind-step s position h (subcommand name) = one_kind-none
one_kind-step s position h value =
    one_kind-option (λ a. positional_fault s.rules s.args_override_self a h) (stray_fault s) (arg_by_index s.rules position)
    (λ a. one_kind-positional s.rules s.args_override_self a h) (one_kind-stray s)

pub one_kind-turn : (s : Shape) (names : Names) (w : Walk) (word : Text) → HasNoHelp s names → OneKind (turn_fault s names w word)
one_kind-turn s names w word no_help =
    let met = word_met s.rules names w.is_trailing w.waiting w.position word w.held in
    one_kind-unless (is_some w.stopped) (or_else (word_fault s names w.is_trailing w.waiting word w.held) (step_fault s w.position met.0 met.1))
    (one_kind-or_else (word_fault s names w.is_trailing w.waiting word w.held) (step_fault s w.position met.0 met.1)
    (one_kind-word s names w.is_trailing w.waiting word w.held no_help) (one_kind-step s w.position met.0 met.1))

pub one_kind-walk : (s : Shape) (names : Names) (w : Walk) (words : List Text) → HasNoHelp s names → OneKind (walk_fault s names w words)
unfolding walk_fault
one_kind-walk s names w [] no_help = one_kind-none
one_kind-walk s names w (word ∷ rest) no_help =
    one_kind-or_else (turn_fault s names w word) (walk_fault s names (walked s.rules names w word) rest) (one_kind-turn s names w word no_help)
    (one_kind-walk s names (walked s.rules names w word) rest no_help)

-- ---- after the walk

pub one_kind-default : (rows : List Row) (a : Rule) → OneKind (default_fault rows a)
one_kind-default rows a =
    one_kind-unless (has_row a.id rows || is_empty a.defaults) (given_default_fault a a.defaults)
    (one_kind-or_else (request_kinds (action_of a)) (values_fault a a.defaults) (one_kind-request (action_of a))
    (one_kind-values_fault a a.defaults))

pub one_kind-defaults : (rows : List Row) (rules : List Rule) → OneKind (defaults_fault rows rules)
unfolding defaults_fault
one_kind-defaults rows [] = one_kind-none
one_kind-defaults rows (a ∷ rest) =
    one_kind-or_else (default_fault rows a) (defaults_fault (with_default rows a) rest) (one_kind-default rows a)
    (one_kind-defaults (with_default rows a) rest)

pub one_kind-check_kinds : (wants_help wants_subcommand wants_argument : Bool) → OneKind (check_kinds wants_help wants_subcommand wants_argument)
one_kind-check_kinds true wants_subcommand wants_argument = one_kind-single kind.DisplayHelpOnMissingArgumentOrSubcommand
one_kind-check_kinds false true wants_argument = one_kind-single kind.MissingSubcommand
one_kind-check_kinds false false wants_argument = one_kind-only_if wants_argument kind.MissingRequiredArgument

pub one_kind-check : (s : Shape) (rows : List Row) (has_subcommand : Bool) → OneKind (check_fault s rows has_subcommand)
one_kind-check s rows has_subcommand = one_kind-check_kinds _ _ _

-- ---- a parse

pub one_kind-level : (s : Shape) (names : Names) (h : Held) (words : List Text) (has_subcommand : Bool) (below : Kinds) → HasNoHelp s names
    → OneKind below → OneKind (level_fault s names h words has_subcommand below)
one_kind-level s names h words has_subcommand below no_help p =
    let end = (walk s.rules names h words).held in
    let rows = (settled s.rules end).rows in
    one_kind-or_else (walk_fault s names (walk_from h) words) _ (one_kind-walk s names (walk_from h) words no_help)
    (one_kind-or_else below _ p
    (one_kind-or_else (settle_fault s.rules s.args_override_self end) _ (one_kind-settle s.rules s.args_override_self end)
    (one_kind-or_else (defaults_fault rows s.rules) _ (one_kind-defaults rows s.rules)
    (one_kind-check s (finished s.rules end) has_subcommand))))

-- a subcommand has none of its own, so that no word there is `help`
pub one_kind-entered : (a : App) (stop : Option (Text × List Text)) → OneKind (entered_fault a stop)
one_kind-entered a stop =
    one_kind-option
    (λ (p : Text × List Text). option_map_or (λ s. level_fault s [] nothing_held p.1 false []) (find (λ s. answers_to p.0 (label_of s)) a.subs) []) [] stop
    (λ p. one_kind-option (λ s. level_fault s [] nothing_held p.1 false []) [] (find (λ s. answers_to p.0 (label_of s)) a.subs)
    (λ s. one_kind-level s [] nothing_held p.1 false [] (inr refl) one_kind-none) one_kind-none) one_kind-none

-- a parse, by a command that disables `help` as a subcommand
pub one_kind-fault_of : (a : App) (words : List Text) → (built a).top.disable_help_subcommand ≡ true → OneKind (fault_of a words)
one_kind-fault_of a words disabled =
    let b = built a in
    let arguments = argument_words a words in
    let stop = (walk b.top.rules (names_of b) nothing_held arguments).stopped in
    one_kind-level b.top (names_of b) nothing_held arguments (is_some (entered b stop)) (entered_fault b stop) (inl disabled)
    (one_kind-entered b stop)
