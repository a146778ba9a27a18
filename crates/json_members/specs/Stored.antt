-- How the logic stores a JSON value: as the list of its pieces. It is what `impl Model for Object` needs, and no contract's meaning rests on it:
-- the lemma `from_pieces-to_pieces` says all that is asked of it.
use Rattle.std.specs.Prelude.{◌≡◌, ℕ, ℤ, pos, List, [], ◌∷◌, Bool, true, false, cond, ◌==◌, refl}
use Rattle.std.specs.Float.{Float, nan}
use Rattle.std.specs.Coded.{Coded, code_by, coded×, coded_ℕ, coded_ℤ, coded_list}
use base.Stored.{coded_float}
use mathlib.Core.Path.{ap, ◌∙◌}
use Rattle.serde_json.specs.Data as json

-- what a value begins with: a leaf, or what joins the values after it
pub data Piece : Type 0 where
  null : Piece
  boolean : Bool → Piece
  unsigned : ℕ → Piece
  negative : ℤ → Piece
  float : Float → Piece
  string : List ℕ → Piece
  array : Piece
  item : Piece
  no_items : Piece
  object : Piece
  member : List ℕ → Piece
  no_members : Piece

-- ---- a piece

abbrev Fields : Type 0
Fields = ℕ × (ℕ × (List ℕ × (ℤ × Float)))

abbrev to_fields : Piece → Fields
to_fields null = (0, (0, ([], (pos 0, nan))))
to_fields (boolean true) = (1, (0, ([], (pos 0, nan))))
to_fields (boolean false) = (2, (0, ([], (pos 0, nan))))
to_fields (unsigned n) = (3, (n, ([], (pos 0, nan))))
to_fields (negative z) = (4, (0, ([], (z, nan))))
to_fields (float x) = (5, (0, ([], (pos 0, x))))
to_fields (string s) = (6, (0, (s, (pos 0, nan))))
to_fields array = (7, (0, ([], (pos 0, nan))))
to_fields item = (8, (0, ([], (pos 0, nan))))
to_fields no_items = (9, (0, ([], (pos 0, nan))))
to_fields object = (10, (0, ([], (pos 0, nan))))
to_fields (member s) = (11, (0, (s, (pos 0, nan))))
to_fields no_members = (12, (0, ([], (pos 0, nan))))

abbrev from_fields : Fields → Piece
from_fields p =
    cond (p.0 == 0) null (cond (p.0 == 1) (boolean true) (cond (p.0 == 2) (boolean false) (cond (p.0 == 3) (unsigned p.1.0) (cond (p.0 == 4) (negative p.1.1.1.0)
    (cond (p.0 == 5) (float p.1.1.1.1) (cond (p.0 == 6) (string p.1.1.0) (cond (p.0 == 7) array (cond (p.0 == 8) item (cond (p.0 == 9) no_items
    (cond (p.0 == 10) object (cond (p.0 == 11) (member p.1.1.0) no_members)))))))))))

pub from_fields-to_fields : (p : Piece) → from_fields (to_fields p) ≡ p
from_fields-to_fields null = refl
from_fields-to_fields (boolean true) = refl
from_fields-to_fields (boolean false) = refl
from_fields-to_fields (unsigned n) = refl
from_fields-to_fields (negative z) = refl
from_fields-to_fields (float x) = refl
from_fields-to_fields (string s) = refl
from_fields-to_fields array = refl
from_fields-to_fields item = refl
from_fields-to_fields no_items = refl
from_fields-to_fields object = refl
from_fields-to_fields (member s) = refl
from_fields-to_fields no_members = refl

-- ---- a value

-- the pieces of a value, in front of others
abbrev mutual
  pub pieces : json.Data → List Piece → List Piece
  pieces json.null rest = null ∷ rest
  pieces (json.boolean b) rest = boolean b ∷ rest
  pieces (json.number (json.unsigned n)) rest = unsigned n ∷ rest
  pieces (json.number (json.negative z)) rest = negative z ∷ rest
  pieces (json.number (json.float x)) rest = float x ∷ rest
  pieces (json.string s) rest = string s ∷ rest
  pieces (json.array ds) rest = array ∷ items_pieces ds rest
  pieces (json.object ms) rest = object ∷ members_pieces ms rest

  pub items_pieces : json.Items → List Piece → List Piece
  items_pieces json.no_items rest = no_items ∷ rest
  items_pieces (json.item d ds) rest = item ∷ pieces d (items_pieces ds rest)

  pub members_pieces : json.Members → List Piece → List Piece
  members_pieces json.no_members rest = no_members ∷ rest
  members_pieces (json.member k d ms) rest = member k ∷ pieces d (members_pieces ms rest)

-- what pieces stand for
pub data Part : Type 0 where
  value : json.Data → Part
  items : json.Items → Part
  members : json.Members → Part

abbrev as_value : Part → json.Data
as_value (value d) = d
as_value (items ds) = json.array ds
as_value (members ms) = json.object ms

abbrev as_items : Part → json.Items
as_items (value d) = json.no_items
as_items (items ds) = ds
as_items (members ms) = json.no_items

abbrev as_members : Part → json.Members
as_members (value d) = json.no_members
as_members (items ds) = json.no_members
as_members (members ms) = ms

abbrev first : List Part → Part
first [] = value json.null
first (p ∷ ps) = p

abbrev rest : List Part → List Part
rest [] = []
rest (p ∷ ps) = ps

-- a piece joins the parts after it
abbrev joined : Piece → List Part → List Part
joined null ps = value json.null ∷ ps
joined (boolean b) ps = value (json.boolean b) ∷ ps
joined (unsigned n) ps = value (json.number (json.unsigned n)) ∷ ps
joined (negative z) ps = value (json.number (json.negative z)) ∷ ps
joined (float x) ps = value (json.number (json.float x)) ∷ ps
joined (string s) ps = value (json.string s) ∷ ps
joined array ps = value (json.array (as_items (first ps))) ∷ rest ps
joined item ps = items (json.item (as_value (first ps)) (as_items (first (rest ps)))) ∷ rest (rest ps)
joined no_items ps = items json.no_items ∷ ps
joined object ps = value (json.object (as_members (first ps))) ∷ rest ps
joined (member k) ps = members (json.member k (as_value (first ps)) (as_members (first (rest ps)))) ∷ rest (rest ps)
joined no_members ps = members json.no_members ∷ ps

abbrev pub parts : List Piece → List Part
parts [] = []
parts (p ∷ ps) = joined p (parts ps)

mutual
  pub parts-pieces : (d : json.Data) (ps : List Piece) → parts (pieces d ps) ≡ value d ∷ parts ps
  parts-pieces json.null ps = refl
  parts-pieces (json.boolean b) ps = refl
  parts-pieces (json.number (json.unsigned n)) ps = refl
  parts-pieces (json.number (json.negative z)) ps = refl
  parts-pieces (json.number (json.float x)) ps = refl
  parts-pieces (json.string s) ps = refl
  parts-pieces (json.array ds) ps = ap (joined array) (parts-items_pieces ds ps)
  parts-pieces (json.object ms) ps = ap (joined object) (parts-members_pieces ms ps)

  pub parts-items_pieces : (ds : json.Items) (ps : List Piece) → parts (items_pieces ds ps) ≡ items ds ∷ parts ps
  parts-items_pieces json.no_items ps = refl
  parts-items_pieces (json.item d ds) ps =
      ap (joined item) (parts-pieces d (items_pieces ds ps) ∙ ap (λ (qs : List Part). value d ∷ qs) (parts-items_pieces ds ps))

  pub parts-members_pieces : (ms : json.Members) (ps : List Piece) → parts (members_pieces ms ps) ≡ members ms ∷ parts ps
  parts-members_pieces json.no_members ps = refl
  parts-members_pieces (json.member k d ms) ps =
      ap (joined (member k)) (parts-pieces d (members_pieces ms ps) ∙ ap (λ (qs : List Part). value d ∷ qs) (parts-members_pieces ms ps))

abbrev to_pieces : json.Data → List Piece
to_pieces d = pieces d []

abbrev from_pieces : List Piece → json.Data
from_pieces ps = as_value (first (parts ps))

pub from_pieces-to_pieces : (d : json.Data) → from_pieces (to_pieces d) ≡ d
from_pieces-to_pieces d = ap (λ (qs : List Part). as_value (first qs)) (parts-pieces d [])

abbrev pub data_code : Coded json.Data
data_code =
    code_by (List Piece) (coded_list (code_by Fields (coded× coded_ℕ (coded× coded_ℕ (coded× (coded_list coded_ℕ) (coded× coded_ℤ coded_float)))) to_fields from_fields from_fields-to_fields))
    to_pieces from_pieces from_pieces-to_pieces
