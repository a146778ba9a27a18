-- What a session of 9P2000 is between two messages.
use Rattle.std.specs.Prelude.{ℕ, ◌≤◌, refl, List, Bool, Option, Some, None, ◌==◌}
use Rattle.std.specs.Option.{option_map_or}
use Rattle.std.specs.Ordering.{nat_cmp}
use Rattle.std.specs.FinMap as map
use Rattle.std.specs.Coded.{Coded, code_by, coded×, coded_ℕ, coded_bool, coded_list, coded_option}
use Rattle.tree_model.specs.declared.stat.Qid.{Qid}

-- How a fid is open: its mode (open(5)), and of the last Rread since it was opened the offset, how many bytes it had, and the name in
-- the last stat that was given, from offset 0 on.
pub record Opened : Type 0 where
  pub mode : ℕ
  pub offset : ℕ
  pub count : ℕ
  pub last : Option (List ℕ)

-- a fid in use: its node, whether that is a directory, and how it is open, if it is
pub record Fid : Type 0 where
  pub node : ℕ
  pub is_dir : Bool
  pub opened : Option Opened

-- the agreed size of messages, if there is one, and the fids in use
pub record State : Type 0 where
  pub size : Option ℕ
  pub fids : map.FinMap nat_cmp Fid

-- no fid (NOFID, intro(5))
abbrev pub no_fid : ℕ
no_fid = 0xFFFFFFFF

-- the most fids in use
abbrev pub fid_limit : ℕ
fid_limit = 1024

-- the smallest and the largest size of messages that is agreed to, in bytes
abbrev pub least_message : ℕ
least_message = 2048

abbrev pub most_message : ℕ
most_message = 65560

-- how many bytes of the agreed size a read leaves to its header (IOHDRSZ, and iounit of open(5))
abbrev pub header_room : ℕ
header_room = 24

-- before the first message, and wherever a Tversion agreed to nothing
abbrev pub fresh : State
fresh = record { size = None; fids = map.empty }

-- the largest message that may come
abbrev pub limit : State → ℕ
limit s = option_map_or (λ size. size) s.size most_message

-- a fid for a node that a qid names, not open
abbrev pub closed : Qid → Fid
closed q = record { node = q.path; is_dir = (q.kind == 0x80); opened = None }

-- and open with a mode, of which nothing was read
abbrev pub open_with : ℕ → Qid → Fid
open_with mode q = record {
  node = q.path;
  is_dir = (q.kind == 0x80);
  opened = Some (record { mode = mode; offset = 0; count = 0; last = None });
}

abbrev pub set : State → ℕ → Fid → State
set s f fid = record { size = s.size; fids = map.insert s.fids f fid }

abbrev pub free : State → ℕ → State
free s f = record { size = s.size; fids = map.remove s.fids f }

-- sizes within their bounds
pub record HasGoodSize (s : State) : Type 0 where
  pub low : least_message ≤ limit s
  pub high : limit s ≤ most_message

-- ---- how these are stored

abbrev pub opened_code : Coded Opened
opened_code =
    code_by (ℕ × (ℕ × (ℕ × Option (List ℕ)))) (coded× coded_ℕ (coded× coded_ℕ (coded× coded_ℕ (coded_option (coded_list coded_ℕ)))))
    (λ o. (o.mode, (o.offset, (o.count, o.last)))) (λ p. record { mode = p.0; offset = p.1.0; count = p.1.1.0; last = p.1.1.1 }) (λ _. refl)

abbrev pub fid_code : Coded Fid
fid_code =
    code_by (ℕ × (Bool × Option Opened)) (coded× coded_ℕ (coded× coded_bool (coded_option opened_code)))
    (λ f. (f.node, (f.is_dir, f.opened))) (λ p. record { node = p.0; is_dir = p.1.0; opened = p.1.1 }) (λ _. refl)

abbrev pub fids_code : Coded (map.FinMap nat_cmp Fid)
fids_code = map.code coded_ℕ fid_code

abbrev pub state_code : Coded State
state_code =
    code_by (Option ℕ × map.FinMap nat_cmp Fid) (coded× (coded_option coded_ℕ) fids_code)
    (λ s. (s.size, s.fids)) (λ p. record { size = p.0; fids = p.1 }) (λ _. refl)
