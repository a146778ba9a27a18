-- The host file of a file or a link, by what its directory's folder shows.
use Rattle.std.proofs.Common.{◌≡◌, ℕ, Bool, true, false, cond, List, Option, Some, None, bytes_eq, refl, ap, ◌∙◌}
use Rattle.std.specs.FinMap.{get}
use Rattle.outside.specs.Disk.{Disk, Node as Thing, folder as Folder, file as Bytes}
use Rattle.clear_tree.specs.Walk.{Sealing, Kind, Plain, Linked, is_name, look}
use Rattle.clear_tree.specs.Places.{folders_of, host_inner, entry_at, entry_where, bytes_of, folder_kind, kind_where, long_kind, either_kind, short_at, folder_at, long_at, seen_at, text_symlink, text_name}
use Rattle.clear_tree.specs.Kept.{is_absent, file_path}

cond_some : {A : Type 0} (b : Bool) (x : Option A) (y : A) → cond b x None ≡ Some y → x ≡ Some y
cond_some true x y h = h
cond_some false x y h = absurd (cc)

bytes_there : (o : Option Thing) (b : List ℕ) → bytes_of o ≡ Some b → o ≡ Some (Bytes b)
bytes_there None b h = absurd (cc)
bytes_there (Some Folder) b h = absurd (cc)
bytes_there (Some (Bytes c)) b h = let e : c ≡ b = cc in ap (λ (z : List ℕ). Some (Bytes z)) e

plain_kind : (a b c : Option (List ℕ)) (x : List ℕ) → folder_kind a b c ≡ Plain x → c ≡ Some x
plain_kind (Some t) b c x h = absurd (cc)
plain_kind None (Some b) c x h = absurd (cc)
plain_kind None None (Some c) x h = cc
plain_kind None None None x h = absurd (cc)

linked_kind : (a b c : Option (List ℕ)) (x : List ℕ) → folder_kind a b c ≡ Linked x → b ≡ Some x
linked_kind (Some t) b c x h = absurd (cc)
linked_kind None (Some b) c x h = cc
linked_kind None None (Some c) x h = absurd (cc)
linked_kind None None None x h = absurd (cc)

where_some : (b : Bool) (k k' : Kind) → kind_where b k ≡ Some k' → k ≡ k'
where_some true k k' h = cc
where_some false k k' h = absurd (cc)

long_some : (t : List ℕ) (o : Option (List ℕ)) (k k' : Kind) → long_kind t o k ≡ Some k' → k ≡ k'
long_some t None k k' h = absurd (cc)
long_some t (Some x) k k' h = where_some (bytes_eq x t) k k' h

module _ (s : Sealing) (d : Disk) (h t : List ℕ) where
  abbrev seen_by : Option Thing → Option Kind
  seen_by e = either_kind e (short_at d h t) (long_at d h (s.long_of t) t)

  abbrev entry_by : Option Thing → List ℕ
  entry_by e = entry_where e t (s.long_of t)

  long_seen : (k : Kind) → long_at d h (s.long_of t) t ≡ Some k → folder_at d h (s.long_of t) ≡ k
  long_seen k e = long_some t (bytes_of (get d (host_inner h (s.long_of t) text_name))) (folder_at d h (s.long_of t)) k e

  file_by : (e : Option Thing) (b : List ℕ) → entry_at s d h t ≡ e → seen_by e ≡ Some (Plain b) → get d (file_path (is_absent e) h (entry_by e)) ≡ Some (Bytes b)
  file_by None b at is = bytes_there _ b (plain_kind _ _ _ b (long_seen (Plain b) is))
  file_by (Some Folder) b at is =
      let k : short_at d h t ≡ Plain b = cc in
      let none : ◌≡◌ {A = Option (List ℕ)} None (Some b) = plain_kind _ _ _ b k in
      absurd (cc)
  file_by (Some (Bytes c)) b at is =
      let e : c ≡ b = cc in
      cond_some (s.is_part t) _ (Bytes b) (at ∙ ap (λ (z : List ℕ). Some (Bytes z)) e)

  link_by : (e : Option Thing) (b : List ℕ) → seen_by e ≡ Some (Linked b) → get d (host_inner h (entry_by e) text_symlink) ≡ Some (Bytes b)
  link_by None b is = bytes_there _ b (linked_kind _ _ _ b (long_seen (Linked b) is))
  link_by (Some Folder) b is =
      let k : short_at d h t ≡ Linked b = cc in
      bytes_there _ b (linked_kind _ _ _ b k)
  link_by (Some (Bytes c)) b is = absurd (cc)

  pub file_there : (b : List ℕ) → seen_at s d h t ≡ Some (Plain b) → get d (file_path (is_absent (entry_at s d h t)) h (entry_by (entry_at s d h t))) ≡ Some (Bytes b)
  file_there b is = file_by (entry_at s d h t) b refl (cond_some (s.is_text t) _ (Plain b) is)

  pub link_there : (b : List ℕ) → seen_at s d h t ≡ Some (Linked b) → get d (host_inner h (entry_by (entry_at s d h t)) text_symlink) ≡ Some (Bytes b)
  link_there b is = link_by (entry_at s d h t) b (cond_some (s.is_text t) _ (Linked b) is)

pub look_seen : (s : Sealing) (d : Disk) (i n : List ℕ) (k : Kind) → look s (folders_of s d) i n ≡ Some k → seen_at s d (s.folder_of i) (s.seal i n) ≡ Some k
look_seen s d i n k h = cond_some (is_name n (s.open_name i (s.seal i n))) _ k h
