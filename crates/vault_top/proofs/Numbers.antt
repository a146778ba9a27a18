-- The numbers of words' jobs are within their bounds.
use Rattle.std.proofs.Common.{◌≡◌, ℕ, ◌<◌, ◌≤◌, ◌^◌, Bool, true, false, cond, ◌&&◌, nat_le, List, Option, Some, None, lit<, refl, ap, subst, arith}
use Rattle.std.specs.Prelude.{codes, option_map, option_and_then, unwrap_or}
use Rattle.std.specs.Option.{option_map_or}
use Rattle.std.specs.Str.{bytes_eq}
use Rattle.std.specs.Str.Parse.{digits_value}
use Rattle.std.proofs.lemmas.Bool.{leb-true}
use Rattle.clap.specs.Words.{Row, Text, first_of, subcommand_of}
use Rattle.vault_words.specs.Command.{vaultd}
use Rattle.vault_words.specs.Numbers.{is_decimal, number_in}
use Rattle.vault_words.specs.Jobs.{Job, Making, Serving, Demonstration, Recovering, serve, make, demo, sync, recover, help, version, AsksFor, has_flag, job_in, job_named, making_in, recovering_in, serving_in, sessions_in, demonstration_in, number_at, topic_in, verbosity_in}
use Rattle.vault_words.specs.declared.job.Topic.{Topic}
use Rattle.vault_words.specs.declared.job.Verbosity.{Verbosity}
use Rattle.vault_top.specs.Words.{most_sessions, sessions_of}
use Rattle.vault_top.specs.Tasks.{IsWithin}

-- ---- one number

at_most : (a b c : Bool) (v n most : ℕ) → (c ≡ true → v ≤ most) → cond (a && (b && c)) (Some v) None ≡ Some n → n ≤ most
at_most true true true v n most few h = let e : v ≡ n = cc in let l = few refl in omega arith
at_most true true false v n most few h = absurd cc
at_most true false c v n most few h = absurd cc
at_most false b c v n most few h = absurd cc

number_in-most : (least most n : ℕ) (text : List ℕ) → number_in least most text ≡ Some n → n ≤ most
unfolding number_in
number_in-most least most n text h =
    at_most (is_decimal text) (nat_le least (digits_value 10 text)) (nat_le (digits_value 10 text) most) (digits_value 10 text) n most (leb-true (digits_value 10 text) most) h

at_least : (a b c : Bool) (v n least : ℕ) → (b ≡ true → least ≤ v) → cond (a && (b && c)) (Some v) None ≡ Some n → least ≤ n
at_least true true true v n least many h = let e : v ≡ n = cc in let l = many refl in omega arith
at_least true true false v n least many h = absurd cc
at_least true false c v n least many h = absurd cc
at_least false b c v n least many h = absurd cc

number_in-least : (least most n : ℕ) (text : List ℕ) → number_in least most text ≡ Some n → least ≤ n
unfolding number_in
number_in-least least most n text h =
    at_least (is_decimal text) (nat_le least (digits_value 10 text)) (nat_le (digits_value 10 text) most) (digits_value 10 text) n least (leb-true least (digits_value 10 text)) h

found_within : (least most n : ℕ) (text : Option Text) → option_and_then (number_in least most) text ≡ Some n → (least ≤ n) × (n ≤ most)
found_within least most n None h = absurd cc
found_within least most n (Some text) h = (number_in-least least most n text h, number_in-most least most n text h)

sessions_few : (n : Option ℕ) (text : Option Text) → option_map_or (λ t. option_map Some (number_in 1 1000000 t)) text (Some None) ≡ Some n → unwrap_or n most_sessions < 2 ^ 32
sessions_few None text h = lit< tt
sessions_few (Some n) None h = absurd cc
sessions_few (Some n) (Some text) h = few (number_in 1 1000000 text) refl h
  where
    few : (found : Option ℕ) → number_in 1 1000000 text ≡ found → option_map Some found ≡ Some (Some n) → n < 2 ^ 32
    few None is h = absurd cc
    few (Some m) is h =
        let same : m ≡ n = cc in
        let most = number_in-most 1 1000000 m text is in omega arith

-- ---- a job

-- what a command's matches are a job of, if they are one
of_found : {X : Type 0} (job : X → Job) (x : Option X) (j : Job) → ((y : X) → job y ≡ j → ⊥) → option_map job x ≡ Some j → ⊥
of_found job None j never h = cc
of_found job (Some y) j never h = never y (cc)

serving_most : (dir address : Option Text) (sessions : Option (Option ℕ)) (at_once idle : Option ℕ) (verbosity : Option Verbosity) (raw_key read_only : Bool) (passfile : Option Text) (s : Serving)
    → ((n : Option ℕ) → sessions ≡ Some n → unwrap_or n most_sessions < 2 ^ 32) → ((n : ℕ) → at_once ≡ Some n → n ≤ 64)
    → option_and_then (λ d. option_and_then (λ a. option_and_then (λ n. option_and_then (λ m. option_and_then (λ i. option_map (λ v. record {
      dir = d;
      address = a;
      sessions = n;
      at_once = m;
      raw_key = raw_key;
      read_only = read_only;
      passfile = passfile;
      idle = i;
      verbosity = v;
    }) verbosity) idle) at_once) sessions) address) dir ≡ Some s
    → (sessions_of s < 2 ^ 32) × (s.at_once ≤ 64)
serving_most None address sessions at_once idle verbosity raw_key read_only passfile s few least h = absurd cc
serving_most (Some d) None sessions at_once idle verbosity raw_key read_only passfile s few least h = absurd cc
serving_most (Some d) (Some a) None at_once idle verbosity raw_key read_only passfile s few least h = absurd cc
serving_most (Some d) (Some a) (Some n) None idle verbosity raw_key read_only passfile s few least h = absurd cc
serving_most (Some d) (Some a) (Some n) (Some m) None verbosity raw_key read_only passfile s few least h = absurd cc
serving_most (Some d) (Some a) (Some n) (Some m) (Some i) None raw_key read_only passfile s few least h = absurd cc
serving_most (Some d) (Some a) (Some n) (Some m) (Some i) (Some v) raw_key read_only passfile s few least h =
    let made : Serving = record { dir = d; address = a; sessions = n; at_once = m; raw_key = raw_key; read_only = read_only; passfile = passfile; idle = i; verbosity = v } in
    let e : made ≡ s = cc in
    subst (λ (x : Serving). (sessions_of x < 2 ^ 32) × (x.at_once ≤ 64)) e (few n refl, least m refl)

named_serve : (a b c d r e : Bool) (x : Option Serving) (y : Option Making) (z : Option Demonstration) (u : Option Text) (w : Option Recovering) (v : Option Topic) (s : Serving)
    → cond a (option_map serve x) (cond b (option_map make y) (cond c (option_map demo z) (cond d (option_map sync u) (cond r (option_map recover w) (cond e (option_map help v) None))))) ≡ Some (serve s) → x ≡ Some s
named_serve true b c d r e None y z u w v s h = absurd cc
named_serve true b c d r e (Some t) y z u w v s h = let is : serve t ≡ serve s = cc in let same : t ≡ s = cc in ap Some same
named_serve false true c d r e x y z u w v s h = absurd (of_found make y (serve s) (λ m is. cc) h)
named_serve false false true d r e x y z u w v s h = absurd (of_found demo z (serve s) (λ m is. cc) h)
named_serve false false false true r e x y z u w v s h = absurd (of_found sync u (serve s) (λ m is. cc) h)
named_serve false false false false true e x y z u w v s h = absurd (of_found recover w (serve s) (λ m is. cc) h)
named_serve false false false false false true x y z u w v s h = absurd (of_found help v (serve s) (λ m is. cc) h)
named_serve false false false false false false x y z u w v s h = absurd cc

named_demo : (a b c d r e : Bool) (x : Option Serving) (y : Option Making) (z : Option Demonstration) (u : Option Text) (w : Option Recovering) (v : Option Topic) (s : Demonstration)
    → cond a (option_map serve x) (cond b (option_map make y) (cond c (option_map demo z) (cond d (option_map sync u) (cond r (option_map recover w) (cond e (option_map help v) None))))) ≡ Some (demo s) → z ≡ Some s
named_demo true b c d r e x y z u w v s h = absurd (of_found serve x (demo s) (λ m is. cc) h)
named_demo false true c d r e x y z u w v s h = absurd (of_found make y (demo s) (λ m is. cc) h)
named_demo false false true d r e x y None u w v s h = absurd cc
named_demo false false true d r e x y (Some t) u w v s h = let is : demo t ≡ demo s = cc in let same : t ≡ s = cc in ap Some same
named_demo false false false true r e x y z u w v s h = absurd (of_found sync u (demo s) (λ m is. cc) h)
named_demo false false false false true e x y z u w v s h = absurd (of_found recover w (demo s) (λ m is. cc) h)
named_demo false false false false false true x y z u w v s h = absurd (of_found help v (demo s) (λ m is. cc) h)
named_demo false false false false false false x y z u w v s h = absurd cc

-- the tests of a command's name
module _ (name : Text) (rows : List Row) where
  found_serving : (s : Serving) → job_named name rows ≡ Some (serve s) → serving_in rows ≡ Some s
  found_serving s h =
      named_serve (bytes_eq name (codes "serve")) (bytes_eq name (codes "make")) (bytes_eq name (codes "demo")) (bytes_eq name (codes "sync")) (bytes_eq name (codes "recover")) (bytes_eq name (codes "help")) (serving_in rows) (making_in rows) (demonstration_in rows)
      (first_of (codes "address") rows) (recovering_in rows) (topic_in rows) s h

  found_demonstration : (d : Demonstration) → job_named name rows ≡ Some (demo d) → demonstration_in rows ≡ Some d
  found_demonstration d h =
      named_demo (bytes_eq name (codes "serve")) (bytes_eq name (codes "make")) (bytes_eq name (codes "demo")) (bytes_eq name (codes "sync")) (bytes_eq name (codes "recover")) (bytes_eq name (codes "help")) (serving_in rows) (making_in rows) (demonstration_in rows)
      (first_of (codes "address") rows) (recovering_in rows) (topic_in rows) d h

found_serve : (found : Option (Text × List Row)) (s : Serving) → job_in found ≡ Some (serve s) → (sessions_of s < 2 ^ 32) × (s.at_once ≤ 64)
found_serve None s h = absurd cc
found_serve (Some (name, rows)) s h =
    serving_most (first_of (codes "dir") rows) (first_of (codes "listen") rows) (sessions_in rows) (number_at (codes "at-once") 1 64 rows) (number_at (codes "idle") 0 1000000 rows) (verbosity_in rows)
    (has_flag (codes "raw-key") rows) (has_flag (codes "read-only") rows) (first_of (codes "passfile") rows) s
    (λ n is. sessions_few n (first_of (codes "sessions") rows) is) (λ n is. (found_within 1 64 n (first_of (codes "at-once") rows) is).1) (found_serving name rows s h)

demonstration_within : (seed clients requests : Option ℕ) (d : Demonstration) → ((n : ℕ) → clients ≡ Some n → (1 ≤ n) × (n ≤ 64)) → ((n : ℕ) → requests ≡ Some n → n ≤ 100000)
    → option_and_then (λ s. option_and_then (λ c. option_map (λ r. record { seed = s; clients = c; requests = r }) requests) clients) seed ≡ Some d
    → (1 ≤ d.clients) × (d.clients ≤ 64) × (d.requests ≤ 100000)
demonstration_within None clients requests d few least h = absurd cc
demonstration_within (Some s) None requests d few least h = absurd cc
demonstration_within (Some s) (Some c) None d few least h = absurd cc
demonstration_within (Some s) (Some c) (Some r) d few least h =
    let made : Demonstration = record { seed = s; clients = c; requests = r } in
    let e : made ≡ d = cc in
    let clients = ap (λ (x : Demonstration). x.clients) e in
    let requests = ap (λ (x : Demonstration). x.requests) e in
    let few' = few c refl in
    let low = few'.0 in
    let high = few'.1 in
    let least' = least r refl in (omega arith, omega arith, omega arith)

found_demo : (found : Option (Text × List Row)) (d : Demonstration) → job_in found ≡ Some (demo d) → (1 ≤ d.clients) × (d.clients ≤ 64) × (d.requests ≤ 100000)
found_demo None d h = absurd cc
found_demo (Some (name, rows)) d h =
    demonstration_within (number_at (codes "seed") 0 18446744073709551615 rows) (number_at (codes "clients") 1 64 rows) (number_at (codes "requests") 0 100000 rows) d
    (λ n e. found_within 1 64 n (first_of (codes "clients") rows) e) (λ n e. (found_within 0 100000 n (first_of (codes "requests") rows) e).1) (found_demonstration name rows d h)

pub within : (job : Job) (words : List Text) → AsksFor job words → IsWithin job
within (serve s) words h = found_serve (subcommand_of vaultd words) s h.1
within (make m) words h = tt
within (demo d) words h = found_demo (subcommand_of vaultd words) d h.1
within (sync address) words h = tt
within (recover r) words h = tt
within (help topic) words h = tt
within version words h = tt
