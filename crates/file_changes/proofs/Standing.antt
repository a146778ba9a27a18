-- On a disk that the tree in memory stands for: what is sealed anew of a file leads to the step's rows, on the disk and in memory.
use Rattle.std.proofs.Common.{◌≡◌, ◌==◌, ℕ, Bool, cond, List, ◌∷◌, length, Option, Some, None, refl, sym, ap, ◌∙◌, subst, arith, eq-eqb, ne_eqb}
use Rattle.std.specs.FinMap.{get}
use Rattle.std.proofs.lemmas.Option.{same_Some}
use Rattle.outside.specs.Disk.{Disk, Path as HostPath, node_at as thing_at, file as host_file}
use Rattle.vault_keys.specs.Keys.{KeyPair}
use Rattle.tree_model.specs.Rows.{Content, Row, row_of}
use Rattle.tree_model.specs.Asked.{PlainRequest}
use Rattle.tree_model.specs.Step.{Answer, Stepped, set_row, step, stepped, with_content}
use Rattle.clear_tree.specs.Walk.{Sealing, Node, File, Link, Dir, Bad}
use Rattle.clear_tree.specs.Kept.{What, KeptFile, what_of}
use Rattle.clear_tree.specs.Kept.{content_of as content_by}
use Rattle.tree_loading.specs.Format.{sealing_of}
use Rattle.file_chunks.specs.File.{content_of}
use Rattle.tree_deed_laws.specs.Trees.{Tree, IsTreeOf}
use Rattle.tree_deed_laws.specs.Deeds.{place_of}
use Rattle.live_tree.specs.Held.{HeldTree, live_row, live_rows, path_of}
use Rattle.live_tree.specs.Changes.{touched, wrapped, AgreeBut}
use Rattle.live_tree_laws.specs.Holds.{IsAt, Holds}
use Rattle.live_tree_laws.specs.Found.{HasBytes}
use Rattle.live_tree_laws.specs.Writing.{with_file, file_at}
use Rattle.live_tree_laws.specs.Writing.{IsRewritten as HasOtherBytes}
use Rattle.live_tree_laws.proofs.Contents.{writing_keeps_contents, dating_keeps_contents}
use Rattle.live_tree_laws.proofs.Files.{nodes_have_bytes, files_stand_at_places}
use Rattle.live_tree_laws.proofs.Numbers.{nodes_have_rows}
use Rattle.live_tree_laws.proofs.Rewriting.{contents_change}
use Rattle.live_tree_laws.specs.Strays.{KeepsStrays}
use Rattle.live_tree_laws.proofs.Laws.{rewritten_file_keeps}
use Rattle.live_tree_laws.proofs.Writing.{writing_holds, dating_holds}
use Rattle.name_places.proofs.Lowest.{writing_keeps, dating_keeps}
use Rattle.content_laws.specs.Rewriting.{Rewriting, rewritten}
use Rattle.content_laws.specs.Laws.{IsRewritten}
use Rattle.content_reader.specs.Reading.{IsFileOf as IsHostFileOf}
use Rattle.write_back.specs.Deeds.{DeedsRewrite, Rewrites}
use Rattle.content_writer.specs.Sealed.{IsPuttable}
use Rattle.pending_files.specs.Pending.{IsInside}
use Rattle.node_changes.specs.Changed.{StandsOn, ShowsRows}
use Rattle.node_changes.proofs.Nodes.{IsBelow, is_below}
use Rattle.request_checks.specs.Files.{IsFileOf}
use Rattle.file_changes.specs.Files.{HasFileFor, IsSealedFor}
use Rattle.file_changes.specs.Held.{rewritten_tree, RowsAreRewritten}
use Rattle.file_changes.specs.Steps.{dated, IsContentStep}
use Rattle.file_changes.proofs.Places.{below_root, is_held_file}
use Rattle.node_changes.specs.declared.tree.VaultTree.{VaultTree}

-- what is kept of files is kept of no other node
pub is_file : (s : Sealing) (x : Node) (size : ℕ) → what_of s x ≡ KeptFile size → (bytes : List ℕ) × (x ≡ File bytes) × (length bytes ≡ size)
is_file s (File b) size e = (b, refl, cc)
is_file s (Link b) size e = absurd cc
is_file s (Dir i) size e = absurd cc
is_file s (Bad t) size e = absurd cc

-- a file of the tree in memory
pub record HeldFile : Type 0 where
  pub keys : KeyPair
  pub live : HeldTree
  pub claims : List (List ℕ × ℕ)
  pub number : ℕ
  pub size : ℕ
  pub clear : ℕ
  pub is : IsFileOf live number size clear

-- the tree in memory once its size and its dates are set
pub record TreeAfter (file : HeldFile) (r : Rewriting) (modified : Option ℕ) (second : ℕ) : Type 0 where
  pub live : HeldTree
  pub claims : List (List ℕ × ℕ)
  pub live_is : live ≡ rewritten_tree file.live file.number r.size modified second
  pub claims_are : claims ≡ file.claims

-- the file of a number in a vault's tree
abbrev pub file_of : (tree : VaultTree) (number size clear : ℕ) → IsFileOf tree.live number size clear → HeldFile
file_of tree number size clear is = record {
  keys = tree.keys;
  live = tree.live;
  claims = tree.claims;
  number = number;
  size = size;
  clear = clear;
  is = is;
}

module _ (file : HeldFile) (d : Disk) (contents : ℕ → Content) (stands : StandsOn (sealing_of file.keys) d file.live file.claims contents) where
  open file use {keys, live, claims, number, size, clear, is}

  abbrev s : Sealing
  s = sealing_of keys

  abbrev tree : Tree
  tree = stands.tree

  pub it : IsBelow s tree live number is.held
  it = is_below s d tree live stands.is stands.holds number is.held is.there (below_root live stands.holds.is_tree number size clear is)

  abbrev of_file : (bytes : List ℕ) × (it.node ≡ File bytes) × (length bytes ≡ size)
  of_file = is_file s it.node size (sym it.is.what ∙ is.file)

  -- the bytes of its host file
  abbrev pub old : List ℕ
  old = of_file.0

  pub old_long : length old ≡ size
  old_long = of_file.2

  at : IsAt live (it.name ∷ it.path) number
  at = (is.held.kept.parent, it.at_dir, it.named)

  stands_file : get tree.nodes (it.name ∷ it.path) ≡ Some (File old)
  stands_file = it.stands ∙ ap Some of_file.1

  has : HasBytes d live number old
  has = nodes_have_bytes s d tree live (it.name ∷ it.path) number (File old) old stands.is stands.holds at stands_file refl

  pub content_is : contents number ≡ content_of keys old
  content_is = stands.are (it.name ∷ it.path) number (File old) at stands_file

  found : row_of (live_rows contents live) number ≡ Some (live_row contents (number, is.held))
  found = nodes_have_rows live contents number is.held is.there

  row_content : (live_row contents (number, is.held)).content ≡ content_of keys old
  row_content = ap (λ (what : What). content_by what (contents number)) is.file ∙ content_is

  -- its row has the content of its host file
  pub content_of_row : (row : Row) → row_of (live_rows contents live) number ≡ Some row → row.content ≡ content_of keys old
  content_of_row row there = ap (λ (r : Row). r.content) (same_Some row (live_row contents (number, is.held)) (sym there ∙ found)) ∙ row_content

  module _ (path : HostPath) (path_is : path_of live number ≡ Some path) where
    same_path : has.path ≡ path
    same_path = same_Some has.path path (sym has.file.is ∙ path_is)

    pub there : thing_at d path ≡ Some (host_file old)
    there = ap (thing_at d) (sym same_path) ∙ has.file.there

    pub host : IsHostFileOf d path size old
    host = record { there = there; long = old_long }

    place_is : path ≡ file_at (place_of s it.i it.name (tree.long (it.name ∷ it.path)))
    place_is = same_Some path (file_at (place_of s it.i it.name (tree.long (it.name ∷ it.path)))) (sym path_is ∙ files_stand_at_places s d tree live it.path number it.i it.name old stands.is stands.holds at it.dir stands_file)

    module _ (r : Rewriting) (change : Content → Option Content) (sealed : IsSealedFor keys path size r change d) where
      now_is : IsRewritten keys old r (change (content_of keys old))
      now_is = sealed old host

      pub has_file : HasFileFor d path r
      has_file = record { tree = stands.is.host; bytes = old; there = there; can = now_is.can }

      pub made : DeedsRewrite → IsInside path → IsPuttable size r → Rewrites d path old r
      made law inside puttable = law d path old r stands.is.host inside there now_is.can puttable.fits (omega (arith, puttable.few))

      abbrev new : List ℕ
      new = rewritten old r

      module _ (second : ℕ) (modified : Option ℕ) (request : PlainRequest) (answer : Answer) (its : IsContentStep live number change modified second request answer contents) where
        changed : change its.row.content ≡ Some (content_of keys new)
        changed = ap change (content_of_row its.row its.there) ∙ now_is.content

        pub step_is : step (live_rows contents live) request second ≡ stepped (set_row (live_rows contents live) (dated modified (with_content its.row (content_of keys new) second))) answer
        step_is = its.made (content_of keys new) changed

        pub answered : (step (live_rows contents live) request second).answer ≡ answer
        answered = ap (λ (w : Stepped). w.answer) step_is

      -- on a disk on which it was rewritten so
      module _ (after : Disk) (other_bytes : HasOtherBytes d after path (rewritten old r)) where
        abbrev tree' : Tree
        tree' = with_file tree (it.name ∷ it.path) new

        is_tree : IsTreeOf s after tree'
        is_tree =
            contents_change s d after tree it.path it.i it.name old new stands.is it.dir stands_file
            (subst (λ (p : HostPath). HasOtherBytes d after p new) place_is other_bytes)

        pub spares : KeepsStrays s d after
        spares =
            rewritten_file_keeps s d after tree it.path it.i it.name old new stands.is it.dir stands_file
            (subst (λ (p : HostPath). HasOtherBytes d after p new) place_is other_bytes)

        abbrev after_contents : ℕ → Content
        after_contents other = cond (other == number) (content_of keys new) (contents other)

        agree : AgreeBut number contents after_contents
        agree other apart = ap (λ (b : Bool). cond b (content_of keys new) (contents other)) (ne_eqb other number apart)

        here : after_contents number ≡ content_of keys new
        here = ap (λ (b : Bool). cond b (content_of keys new) (contents number)) (eq-eqb number number refl)

        module _ (second : ℕ) where
          touched_holds : Holds s tree' (touched live number (length new) second)
          touched_holds = writing_holds s tree live (it.name ∷ it.path) number old new second stands.holds at stands_file

          touched_stands : StandsOn s after (touched live number r.size second) claims after_contents
          touched_stands = subst (λ (n : ℕ). StandsOn s after (touched live number n second) claims after_contents) now_is.long (record {
            tree = tree';
            is = is_tree;
            holds = touched_holds;
            claimed = writing_keeps s live claims number (length new) second stands.claimed (is_held_file live number size clear is);
            are = writing_keeps_contents s tree live (it.name ∷ it.path) number old new second contents after_contents stands.holds at stands_file stands.are agree here;
          })

          rewritten_stands : (modified : Option ℕ) → StandsOn s after (rewritten_tree live number r.size modified second) claims after_contents
          rewritten_stands None = touched_stands
          rewritten_stands (Some m) =
              let t = touched_stands in
              record {
                tree = t.tree;
                is = t.is;
                holds = dating_holds s t.tree (touched live number r.size second) number m t.holds;
                claimed = dating_keeps s (touched live number r.size second) claims number m t.claimed;
                are = dating_keeps_contents s t.tree (touched live number r.size second) number m after_contents t.holds t.are;
              }

        module _ (second : ℕ) (modified : Option ℕ) (tree_after : TreeAfter file r modified second) where
          open tree_after use {live as live', claims as claims', live_is, claims_are}

          stands_there : StandsOn s after live' claims' after_contents
          stands_there =
              subst (λ (l : HeldTree). StandsOn s after l claims' after_contents) (sym live_is)
              (subst (λ (c : List (List ℕ × ℕ)). StandsOn s after (rewritten_tree live number r.size modified second) c after_contents) (sym claims_are) (rewritten_stands second modified))

          -- the tree in memory is that of the disk again
          pub still_stands : (theirs : ℕ → Content) × StandsOn (sealing_of keys) after live' claims' theirs
          still_stands = (after_contents, stands_there)

          pub shows : (request : PlainRequest) (answer : Answer) → IsContentStep live number change modified second request answer contents → RowsAreRewritten live live' number modified second
              → ShowsRows s (step (live_rows contents live) request second).rows after live' claims'
          shows request answer its rows = record {
            contents = after_contents;
            stands = stands_there;
            shows =
                rows contents after_contents its.row its.there agree
                ∙ ap (λ (c : Content). wrapped (set_row (live_rows contents live) (dated modified (with_content its.row c second)))) here
                ∙ ap wrapped (sym (ap (λ (w : Stepped). w.rows) (step_is second modified request answer its)));
          }
