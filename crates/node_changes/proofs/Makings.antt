-- The deeds of a new node at its site lead to the tree with it, and what else came of it is refused rightly.
use Rattle.std.proofs.Common.{◌≡◌, ◌≢◌, ℕ, Bool, true, false, List, [], ◌∷◌, Option, Some, None, IsNone, IsSome, IfSome, IsTrue, is_some, Result, Ok, length, map, take, refl, sym, ap, ap₂, ◌∙◌, subst, true≢false, if◌then◌else◌, arith}
use Rattle.std.proofs.lemmas.Bool.{cond-true}
use Rattle.std.proofs.lemmas.List.{take_all}
use Rattle.std.specs.List.{range_with_len}
use Rattle.std.specs.Option.{option_and_then, option_map_or}
use Rattle.vault_path.specs.Parts.{is_part}
use Rattle.outside.specs.Disk.{Disk, Path as HostPath}
use Rattle.deeds.specs.Deeds.{PlainDeed, DoesAll}
use Rattle.vault_keys.specs.Keys.{KeyPair}
use Rattle.file_chunks.specs.Header.{header_opens}
use Rattle.file_chunks.specs.File.{is_bad_size, cell_of, chunk_count, sealed_at}
use Rattle.file_chunks.specs.File.{content_of as file_content}
use Rattle.file_chunks.specs.declared.size.TheConstants.{HEADER_LENGTH}
use Rattle.tree_model.specs.declared.refusal.Refusal.{Refusal}
use Rattle.tree_model.specs.declared.refusal.Refusal.TheVariants as refusals
use Rattle.tree_model.specs.declared.stat.Qid.{Qid}
use Rattle.tree_model.specs.Names.{NameFault, clear_name}
use Rattle.tree_model.specs.Rows.{Content, bad_size, chunks, Row, Rows, is_dir, row_of, qid_of}
use Rattle.tree_model.specs.Asked.{create, qid, refused}
use Rattle.tree_model.specs.Step.{Answer, Stepped, stepped, early, early_refusal, says, refuses, step, create_refusal, raw_name_refusal, new_row, with_new}
use Rattle.tree_model.specs.History.{is_refusal}
use Rattle.clear_tree.specs.Walk.{Path, Sealing, Node, File, Dir}
use Rattle.clear_tree.specs.Rows.{content_in}
use Rattle.clear_tree.specs.Kept.{What, KeptFile, KeptDir, kind_of, what_of, content_of, folder_in}
use Rattle.tree_loading.specs.Format.{sealing_of}
use Rattle.tree_deed_laws.specs.Trees.{AreTexts, Tree, IsTreeOf, with_node}
use Rattle.tree_deed_laws.specs.Taken.{taken}
use Rattle.tree_deed_laws.specs.Changes as laws
use Rattle.tree_deed_laws.specs.Deeds.{Place, place_of, create_file_deeds, create_dir_deeds}
use Rattle.tree_deed_laws.proofs.Creates.{creates_file, creates_directory}
use Rattle.live_tree.specs.Held.{HeldNode, HeldTree, live_row, live_rows, IsTree}
use Rattle.live_tree.specs.Changes.{added, new_node, RowsAreAdded}
use Rattle.live_tree_laws.specs.Holds.{Holds}
use Rattle.live_tree_laws.proofs.Paths.{one_held}
use Rattle.live_tree_laws.proofs.Numbers.{nodes_have_rows, reached}
use Rattle.name_places.specs.declared.directory.NewDirectory.{NewDirectory}
use Rattle.name_places.specs.New.{IsNewDirectory}
use Rattle.name_places.specs.Claims.{AreClaimsOf, HaveHostEntries, claims_in}
use Rattle.name_places.specs.Laws.{EntriesAreParts, Grows, IsInserted, IsNumbered, KeptClaims, TakesBack}
use Rattle.name_places.specs.Asked.{IsTaken}
use Rattle.name_places.specs.Asked.{identifier_in as drawn_in}
use Rattle.name_places.proofs.Lowest.{making_keeps}
use Rattle.name_places.proofs.Listed.{claims_are_whole}
use Rattle.live_tree_laws.specs.Strays.{KeepsStrays}
use Rattle.live_tree_laws.proofs.Laws.{created_directory_keeps, created_file_keeps}
use Rattle.node_changes.specs.declared.site.Site.{Site}
use Rattle.node_changes.specs.Changed.{StandsOn}
use Rattle.node_changes.specs.Placed.{identifier_in, identifier_at, name_of, taken_in}
use Rattle.node_changes.specs.Creating.{IsSite, MakesOn, new_qid}
use Rattle.node_changes.specs.Within.{AreWithin}
use Rattle.node_changes.specs.declared.tree.VaultTree.{VaultTree}
use Rattle.node_changes.proofs.Nodes.{is_below, place_is, above_there}
use Rattle.node_changes.proofs.Sites.{named_raw}
use Rattle.node_changes.proofs.Within.{creation_within, directory_within}
use Rattle.node_changes.proofs.Creations.{Coming, CanCome, dir_node, free_child, made_step, makes}

-- ---- a file without chunks

abbrev by_length : KeyPair → List ℕ → ℕ → Content
by_length keys bytes n =
    if is_bad_size n then bad_size
    else chunks (is_some (header_opens keys (take HEADER_LENGTH bytes)))
    (map (λ i. cell_of (header_opens keys (take HEADER_LENGTH bytes)) i (sealed_at bytes i)) (range_with_len 0 (chunk_count n)))

pub empty_file : (keys : KeyPair) (bytes : List ℕ) → length bytes ≡ 68 → IsSome (header_opens keys bytes) → file_content keys bytes ≡ chunks true []
unfolding file_content
empty_file keys bytes long opens =
    ap (by_length keys bytes) long ∙ ap (λ (b : List ℕ). chunks (is_some (header_opens keys b)) []) (take_all 68 bytes (omega (arith, long))) ∙ ap (λ (b : Bool). chunks b []) opens

-- ---- the directory of a site

has_folder : (o : Option (List ℕ)) → IsSome o → (folder : List ℕ) × (o ≡ Some folder)
has_folder None h = absurd (true≢false (sym h))
has_folder (Some folder) h = (folder, refl)

-- host paths can be made of the entries that are held of a disk's nodes
pub host_entries : (keys : KeyPair) → EntriesAreParts keys → (d : Disk) (tree : Tree) (live : HeldTree) → IsTreeOf (sealing_of keys) d tree → Holds (sealing_of keys) tree live → HaveHostEntries live
host_entries keys parts d tree live of holds number node there below =
    let it = is_below (sealing_of keys) d tree live of holds number node there below in
    let up = above_there live holds.is_tree number node there in
    let folder = has_folder (folder_in up.0.kept.what) up.2 in
    let place = place_is (sealing_of keys) d tree live of holds number node there below folder.0 (record { above = up.0; up = up.1; is = folder.1 }) it in
    subst (λ (p : Place). IsTrue (is_part p.entry)) place (parts d tree it.path it.i it.name it.node of it.dir it.stands)

qid_is : (b : Bool) (rows : Rows) (row : Row) (n : List ℕ) (second : ℕ) → qid_of (new_row rows row n b second) ≡ record { kind = if b then 0x80 else 0; version = 0; path = rows.next }
qid_is true rows row n second = refl
qid_is false rows row n second = refl

-- a create is asked for, of a name at its site
pub record Asked (keys : KeyPair) (live : HeldTree) (parent : ℕ) (site : Site) (name : List ℕ) : Type 0 where
  pub at : IsSite (sealing_of keys) live parent site
  pub is : IsTree live
  pub clear : clear_name name ≡ Ok site.name

-- of a vault's tree
abbrev pub asked_of : (tree : VaultTree) (parent : ℕ) (site : Site) → IsSite (sealing_of tree.keys) tree.live parent site → IsTree tree.live → (name : List ℕ) → clear_name name ≡ Ok site.name
    → Asked tree.keys tree.live parent site name
asked_of tree parent site at is name clear = record { at = at; is = is; clear = clear }

module _ {keys : KeyPair} {live : HeldTree} {parent : ℕ} {site : Site} {name : List ℕ} (asked : Asked keys live parent site name) where
  open asked use {at, is, clear}

  abbrev k : Sealing
  k = sealing_of keys

  identifier_there : identifier_at live parent ≡ Some at.identifier
  identifier_there = ap (option_and_then (λ (node : HeldNode). identifier_in node.kept.what)) at.there ∙ ap identifier_in at.dir

  dir_kind : is_dir (kind_of at.held.kept.what) ≡ true
  dir_kind = ap (λ (w : What). is_dir (kind_of w)) at.dir

  found : (contents : ℕ → Content) → row_of (live_rows contents live) parent ≡ Some (live_row contents (parent, at.held))
  found contents = nodes_have_rows live contents parent at.held at.there

  -- its folder is that of its identifier
  folder_is : (d : Disk) (claims : List (List ℕ × ℕ)) (contents : ℕ → Content) → StandsOn (sealing_of keys) d live claims contents → site.folder ≡ k.folder_of at.identifier
  folder_is d claims contents stands =
      let p = reached live stands.holds.is_tree parent at.held at.there in
      let it = stands.holds.nodes_of p.0 parent p.1 in
      let same : it.held ≡ at.held = one_held live parent it.held at.held it.there at.there in
      let what : KeptDir at.identifier site.folder ≡ what_of k it.node = sym at.dir ∙ ap (λ (z : HeldNode). z.kept.what) (sym same) ∙ it.is.what in
      let node : it.node ≡ Dir at.identifier = dir_node k it.node at.identifier site.folder (sym what) in
      let both : ◌≡◌ {A = What} (KeptDir at.identifier site.folder) (KeptDir at.identifier (k.folder_of at.identifier)) = what ∙ ap (what_of k) node in
      cc

  taken_is : (d : Disk) (drawn : Option (List ℕ)) → taken_in (sealing_of keys) d live parent name drawn ≡ taken (sealing_of keys) d (claims_in (sealing_of keys) live) at.identifier site.name drawn
  taken_is d drawn =
      ap (option_and_then (λ (i : List ℕ). option_and_then (λ (n : List ℕ). taken k d (claims_in k live) i n drawn) (name_of (clear_name name)))) identifier_there
      ∙ ap (λ (r : Result (List ℕ) NameFault). option_and_then (λ (n : List ℕ). taken k d (claims_in k live) at.identifier n drawn) (name_of r)) clear

  -- which of its places is taken on a disk that the tree in memory stands for
  pub told_taken : EntriesAreParts keys → (drawn : Option NewDirectory) → IfSome drawn (λ (directory : NewDirectory). directory.folder ≡ k.folder_of directory.identifier)
      → (d : Disk) (claims : List (List ℕ × ℕ)) (path : Option HostPath) → IsTaken site.folder site.place drawn live claims path d → (contents : ℕ → Content) → StandsOn (sealing_of keys) d live claims contents
      → taken_in (sealing_of keys) d live parent name (drawn_in drawn) ≡ path
  told_taken parts drawn own d claims path told contents stands =
      taken_is d (drawn_in drawn)
      ∙ sym (told keys at.identifier site.name (record {
        above = folder_is d claims contents stands;
        text = at.place.text;
        own = own;
        is_tree = stands.holds.is_tree;
        entries = host_entries keys parts d stands.tree live stands.is stands.holds;
        indexed = stands.claimed;
      }))

  early_is : create_refusal (kind_of at.held.kept.what) name ≡ None
  early_is = cond-true (is_dir (kind_of at.held.kept.what)) (raw_name_refusal name) (Some refusals.NotADirectory) dir_kind ∙ named_raw name site.name clear

  -- ---- what the step makes of it

  module _ (is_directory : Bool) (mode second : ℕ) (contents : ℕ → Content) where
    pub is_late : IsNone (early_refusal (live_rows contents live) (create parent name is_directory mode))
    is_late =
        let none : early_refusal (live_rows contents live) (create parent name is_directory mode) ≡ None =
        ap (λ (o : Option Row). option_map_or (λ row. early (live_rows contents live) row (create parent name is_directory mode)) o (Some refusals.Removed)) (found contents) ∙ early_is in
        subst (λ (o : Option Refusal). IsNone o) (sym none) refl

    made_is : step (live_rows contents live) (create parent name is_directory mode) second
        ≡ stepped (with_new (live_rows contents live) (new_row (live_rows contents live) (live_row contents (parent, at.held)) site.name is_directory second) second)
        (says (qid (qid_of (new_row (live_rows contents live) (live_row contents (parent, at.held)) site.name is_directory second))))
    made_is =
        made_step (live_rows contents live) (live_row contents (parent, at.held)) parent name site.name is_directory mode second (found contents) early_is clear
        (free_child live is contents parent site.name at.free) (at.room contents)

    pub answer_is : (step (live_rows contents live) (create parent name is_directory mode) second).answer ≡ says (qid (new_qid live is_directory))
    answer_is =
        ap (λ (w : Stepped). w.answer) made_is
        ∙ ap (λ (q : Qid). says (qid q)) (qid_is is_directory (live_rows contents live) (live_row contents (parent, at.held)) site.name second)

    pub never_removed : (step (live_rows contents live) (create parent name is_directory mode) second).answer ≢ refuses refusals.Removed
    never_removed e =
        let both : qid (new_qid live is_directory) ≡ refused refusals.Removed = ap (λ (a : Answer). a.reply) (sym answer_is ∙ e) in
        cc

    pub is_accepted : is_refusal (step (live_rows contents live) (create parent name is_directory mode) second).answer.reply ≡ false
    is_accepted = ap (λ (a : Answer). is_refusal a.reply) answer_is

-- ---- its deeds

abbrev pub place_by : List ℕ → List ℕ → Bool → Place
place_by folder entry long = record { folder = folder; entry = entry; long = long }

-- a node is made at the site, by deeds
pub record Making (keys : KeyPair) (live live' : HeldTree) (claims claims' : List (List ℕ × ℕ)) (parent now : ℕ) (site : Site) (name : List ℕ) (mode : ℕ) (deeds : List PlainDeed) : Type 0 where
  pub texts : AreTexts (sealing_of keys)
  pub kept : KeptClaims keys
  pub asked : Asked keys live parent site name

-- from a vault's tree to another
abbrev pub making_of : (old new : VaultTree) {parent : ℕ} {site : Site} {name : List ℕ} → Asked old.keys old.live parent site name → AreTexts (sealing_of old.keys) → KeptClaims old.keys → (now mode : ℕ) (deeds : List PlainDeed)
    → Making old.keys old.live new.live old.claims new.claims parent now site name mode deeds
making_of old new asked texts kept now mode deeds = record { texts = texts; kept = kept; asked = asked }

module _ {keys : KeyPair} {live live' : HeldTree} {claims claims' : List (List ℕ × ℕ)} {parent now : ℕ} {site : Site} {name : List ℕ} {mode : ℕ} {deeds : List PlainDeed}
    (making : Making keys live live' claims claims' parent now site name mode deeds) where
  open making use {texts, kept, asked, asked.{at, is}}

  abbrev o : Sealing
  o = sealing_of keys

  module _ (within : AreWithin deeds) (is_directory : Bool) (drawn : Option (List ℕ)) (x : Node) (empty : content_of (what_of (sealing_of keys) x) (chunks true []) ≡ content_in (sealing_of keys) x)
      (leads : (d : Disk) (tree : Tree) (p : Path) → site.folder ≡ (sealing_of keys).folder_of at.identifier → IsTreeOf (sealing_of keys) d tree → laws.IsNew (sealing_of keys) d tree p at.identifier site.name site.place.long drawn
      → laws.Leads (sealing_of keys) d deeds (with_node tree (site.name ∷ p) x site.place.long))
      (spares : (d : Disk) (tree : Tree) (p : Path) (after : Disk) → site.folder ≡ (sealing_of keys).folder_of at.identifier → IsTreeOf (sealing_of keys) d tree → laws.IsNew (sealing_of keys) d tree p at.identifier site.name site.place.long drawn
      → DoesAll deeds d after → KeepsStrays (sealing_of keys) d after)
      (made : live' ≡ added live (new_node parent site.name (what_of (sealing_of keys) x) site.place.entry site.place.long now) now) (rows : RowsAreAdded live live' parent site.name is_directory now)
      (claimed : AreClaimsOf (sealing_of keys) live claims → AreClaimsOf (sealing_of keys) (added live (new_node parent site.name (what_of (sealing_of keys) x) site.place.entry site.place.long now) now) claims') where
    abbrev with_entry : List ℕ → HeldTree
    with_entry entry = added live (new_node parent site.name (what_of o x) entry site.place.long now) now

    can : (d : Disk) → taken_in (sealing_of keys) d live parent name drawn ≡ None → CanCome (sealing_of keys) d live parent at.identifier site.name site.place.long drawn
    can d untaken = record {
      held = at.held;
      there = at.there;
      folder = site.folder;
      dir = at.dir;
      name = record { free = at.free; named = at.place.named; part = at.place.short; untaken = sym (taken_is asked d drawn) ∙ untaken };
    }

    makes_on : MakesOn (sealing_of keys) (create parent name is_directory mode) now (says (qid (new_qid live is_directory))) drawn live live' claims claims' deeds
    makes_on d contents stands untaken =
        let coming : Coming keys d live live' parent now at.identifier site.name site.place.long drawn x deeds = record {
          kept = kept;
          whole = claims_are_whole;
          can = can d untaken;
          empty = empty;
          within = within;
          creates = λ tree p of new. leads d tree p (folder_is asked d claims contents stands) of new;
          spares = λ tree p after of new does. spares d tree p after (folder_is asked d claims contents stands) of new does;
          made = made ∙ ap with_entry at.place.entry;
        } in (
          makes coming claims claims' name is_directory mode rows
              (λ others more. subst (λ (entry : List ℕ). AreClaimsOf o (with_entry entry) claims') at.place.entry (claimed more.claimed))
              (made_is asked is_directory mode now) contents stands,
          λ others more. answer_is asked is_directory mode now others,
        )

  -- a file with this header
  module _ (header : List ℕ) (long : length header ≡ 68) (opens : IsSome (header_opens keys header)) (are : deeds ≡ create_file_deeds (place_by site.folder site.place.entry site.place.long) site.place.text header)
      (made : live' ≡ added live (new_node parent site.name (KeptFile 68) site.place.entry site.place.long now) now) (rows : RowsAreAdded live live' parent site.name false now) (same : claims' ≡ claims) where
    file_deeds : site.folder ≡ o.folder_of at.identifier → create_file_deeds (place_of o at.identifier site.name site.place.long) (o.seal at.identifier site.name) header ≡ deeds
    file_deeds folder =
        sym (are ∙ ap₂ (λ (f e : List ℕ). create_file_deeds (place_by f e site.place.long) site.place.text header) folder at.place.entry
        ∙ ap (λ (t : List ℕ). create_file_deeds (place_of o at.identifier site.name site.place.long) t header) at.place.text)

    pub file_makes : MakesOn (sealing_of keys) (create parent name false mode) now (says (qid (new_qid live false))) None live live' claims claims' deeds
    file_makes =
        makes_on (subst AreWithin (sym are) (creation_within (place_by site.folder site.place.entry site.place.long) site.place.text header)) false None (File header) (sym (empty_file keys header long opens))
        (λ d tree p folder of new. subst (λ (ds : List PlainDeed). laws.Leads o d ds (with_node tree (site.name ∷ p) (File header) site.place.long)) (file_deeds folder)
        (creates_file o d tree p at.identifier site.name header site.place.long texts of new))
        (λ d tree p after folder of new does. created_file_keeps o d after tree p at.identifier site.name header site.place.long texts of new
        (subst (λ (ds : List PlainDeed). DoesAll ds d after) (sym (file_deeds folder)) does))
        (made ∙ ap (λ (size : ℕ). added live (new_node parent site.name (KeptFile size) site.place.entry site.place.long now) now) (sym long)) rows
        (λ claimed. subst (AreClaimsOf o (added live (new_node parent site.name (KeptFile (length header)) site.place.entry site.place.long now) now)) (sym same)
        (making_keeps o live claims (new_node parent site.name (KeptFile (length header)) site.place.entry site.place.long now) now is claimed refl))

  -- a directory that was drawn
  module _ (directory : NewDirectory) (bytes : List ℕ) (new : IsNewDirectory (sealing_of keys) bytes directory)
      (are : deeds ≡ create_dir_deeds (place_by site.folder site.place.entry site.place.long) site.place.text directory.folder directory.identifier)
      (made : live' ≡ added live (new_node parent site.name (KeptDir directory.identifier directory.folder) site.place.entry site.place.long now) now) (rows : RowsAreAdded live live' parent site.name true now)
      (grows : Grows claims claims' directory.folder live.next) where
    dir_deeds : site.folder ≡ o.folder_of at.identifier
        → create_dir_deeds (place_of o at.identifier site.name site.place.long) (o.seal at.identifier site.name) (o.folder_of directory.identifier) directory.identifier ≡ deeds
    dir_deeds folder =
        sym (are ∙ ap₂ (λ (f e : List ℕ). create_dir_deeds (place_by f e site.place.long) site.place.text directory.folder directory.identifier) folder at.place.entry
        ∙ ap₂ (λ (t f : List ℕ). create_dir_deeds (place_of o at.identifier site.name site.place.long) t f directory.identifier) at.place.text new.folder)

    pub directory_makes : MakesOn (sealing_of keys) (create parent name true mode) now (says (qid (new_qid live true))) (Some directory.identifier) live live' claims claims' deeds
    directory_makes =
        makes_on
        (subst AreWithin (sym are) (directory_within (place_by site.folder site.place.entry site.place.long) site.place.text directory.folder directory.identifier))
        true (Some directory.identifier) (Dir directory.identifier) refl
        (λ d tree p folder of it. subst (λ (ds : List PlainDeed). laws.Leads o d ds (with_node tree (site.name ∷ p) (Dir directory.identifier) site.place.long)) (dir_deeds folder)
        (creates_directory o d tree p at.identifier site.name directory.identifier site.place.long texts of it new.valid))
        (λ d tree p after folder of it does. created_directory_keeps o d after tree p at.identifier site.name directory.identifier site.place.long texts of it new.valid
        (subst (λ (ds : List PlainDeed). DoesAll ds d after) (sym (dir_deeds folder)) does))
        (made ∙ ap (λ (f : List ℕ). added live (new_node parent site.name (KeptDir directory.identifier f) site.place.entry site.place.long now) now) new.folder) rows
        (λ before. grows o live (new_node parent site.name (what_of o (Dir directory.identifier)) site.place.entry site.place.long now) now is before refl (ap (λ (f : List ℕ). Some f) (sym new.folder)))

-- ---- a directory that isn't made

pub takes_back : (old mid after new : List (List ℕ × ℕ)) (folder : List ℕ) (number : ℕ) (is_new : Bool) → IsInserted old mid folder number is_new → is_new ≡ true → after ≡ mid → TakesBack after new folder → new ≡ old
takes_back old mid after new folder number true put is same back = back old number (subst (λ (cs : List (List ℕ × ℕ)). IsNumbered old cs folder number) (sym same) put)
takes_back old mid after new folder number false put is same back = absurd cc

pub took_nothing : (old mid after : List (List ℕ × ℕ)) (folder : List ℕ) (number : ℕ) (is_new : Bool) → IsInserted old mid folder number is_new → is_new ≡ false → after ≡ mid → after ≡ old
took_nothing old mid after folder number true put is same = absurd cc
took_nothing old mid after folder number false put is same = same ∙ put
