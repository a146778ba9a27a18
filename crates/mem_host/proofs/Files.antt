-- Files by their numbers.
use Rattle.std.proofs.Common.{◌≡◌, ◌≢◌, ◌⊎◌, ◌+◌, ◌<◌, ◌≤◌, ℕ, zero, suc, List, [], ◌∷◌, ◌++◌, length, set, get_or, Option, Some, None, IsSome, option_map, unwrap_or, refl, sym, ap, subst, ◌∙◌, inl, inr, arith, true≢false}
use Rattle.std.proofs.lemmas.Option.{get_or_from_slice_get}
use Rattle.std.specs.List.{slice_get}
use Rattle.std.specs.FinMap as map
use Rattle.host_calls.specs.declared.found.Inode.{Inode}
use Rattle.host_calls.specs.Volume.{inode_cmp, bytes_in, each_value}
use Rattle.host_calls.specs.Bytes.{Filed}
use Rattle.host_calls.specs.Story.{Files, bytes_of}
use Rattle.host_calls.proofs.Volumes.{inodes_total, inodes_apart, get_each, by_inode, filed_here, filed_there, gone_here, gone_there}
use Rattle.mem_host.specs.Filing.{numbered, files_from, IsFiling}

-- ---- maps

same : {X : Type 0} (m n : map.FinMap inode_cmp X) → ((j : Inode) → map.get m j ≡ map.get n j) → m ≡ n
same m n is = map.same_map inodes_total inodes_apart m n is

-- what was inserted last stays
pub inserted_twice : {X : Type 0} (m : map.FinMap inode_cmp X) (i : Inode) (x y : X) → map.insert (map.insert m i x) i y ≡ map.insert m i y
inserted_twice m i x y = same _ _ (λ j. by_inode j i
    (λ e. ap (map.get (map.insert (map.insert m i x) i y)) e ∙ filed_here (map.insert m i x) i y ∙ sym (ap (map.get (map.insert m i y)) e ∙ filed_here m i y))
    (λ ne. filed_there (map.insert m i x) i y j ne ∙ filed_there m i x j ne ∙ sym (filed_there m i y j ne)))

-- two that were inserted at different places
pub inserted_apart : {X : Type 0} (m : map.FinMap inode_cmp X) (i k : Inode) (x y : X) → i ≢ k → map.insert (map.insert m i x) k y ≡ map.insert (map.insert m k y) i x
inserted_apart m i k x y apart = same _ _ (λ j. by_inode j k
    (λ e. ap (map.get (map.insert (map.insert m i x) k y)) e ∙ filed_here (map.insert m i x) k y
    ∙ sym (ap (map.get (map.insert (map.insert m k y) i x)) e ∙ filed_there (map.insert m k y) i x k (λ s. apart (sym s)) ∙ filed_here m k y))
    (λ ne. filed_there (map.insert m i x) k y j ne ∙ by_inode j i
    (λ e. ap (map.get (map.insert m i x)) e ∙ filed_here m i x ∙ sym (ap (map.get (map.insert (map.insert m k y) i x)) e ∙ filed_here (map.insert m k y) i x))
    (λ off. filed_there m i x j off ∙ sym (filed_there (map.insert m k y) i x j off ∙ filed_there m k y j ne))))

-- what was inserted anew is removed again
pub removed_again : {X : Type 0} (m : map.FinMap inode_cmp X) (i : Inode) (x : X) → map.get m i ≡ None → map.remove (map.insert m i x) i ≡ m
removed_again m i x none = same _ _ (λ j. by_inode j i
    (λ e. ap (map.get (map.remove (map.insert m i x) i)) e ∙ gone_here (map.insert m i x) i ∙ sym (ap (map.get m) e ∙ none))
    (λ ne. gone_there (map.insert m i x) i j ne ∙ filed_there m i x j ne))

-- ---- numbers

pub numbers_apart : (m n : ℕ) → m ≢ n → numbered m ≢ numbered n
numbers_apart m n ne e = ne (ap (λ (i : Inode). i.ino) e)

later : (n k : ℕ) → numbered (n + suc k) ≢ numbered n
later n k = numbers_apart (n + suc k) n (λ e. omega (arith, e))

moved : (n k : ℕ) → numbered (suc n + k) ≡ numbered (n + suc k)
moved n k = ap numbered (omega arith)

-- the file of a number
pub filed_at : (n : ℕ) (fs : List Filed) (k : ℕ) → map.get (files_from n fs) (numbered (n + k)) ≡ slice_get fs k
filed_at n [] k = map.get-empty inode_cmp (numbered (n + k))
filed_at n (f ∷ fs) zero = let e : numbered (n + 0) ≡ numbered n = ap numbered (omega arith) in ap (map.get (map.insert (files_from (suc n) fs) (numbered n) f)) e ∙ filed_here (files_from (suc n) fs) (numbered n) f
filed_at n (f ∷ fs) (suc k) =
    filed_there (files_from (suc n) fs) (numbered n) f (numbered (n + suc k)) (later n k)
    ∙ ap (map.get (files_from (suc n) fs)) (sym (moved n k))
    ∙ filed_at (suc n) fs k

-- where a file is in the list
pub record IsAmong (n : ℕ) (fs : List Filed) (i : Inode) (filed : Filed) : Type 0 where
  pub place : ℕ
  pub within : place < length fs
  pub is : i ≡ numbered (n + place)
  pub there : slice_get fs place ≡ Some filed

-- each file has a number
pub among : (n : ℕ) (fs : List Filed) (i : Inode) (filed : Filed) → map.get (files_from n fs) i ≡ Some filed → IsAmong n fs i filed
among n [] i filed h = absurd (let e : None ≡ Some filed = sym (map.get-empty inode_cmp i) ∙ h in cc)
among n (f ∷ fs) i filed h = by_inode i (numbered n)
    (λ e. record {
      place = 0;
      within = omega arith;
      is = e ∙ ap numbered (omega arith);
      there = sym (ap (map.get (files_from n (f ∷ fs))) e ∙ filed_here (files_from (suc n) fs) (numbered n) f) ∙ h;
    })
    (λ ne. let rest = among (suc n) fs i filed (sym (filed_there (files_from (suc n) fs) (numbered n) f i ne) ∙ h) in record {
      place = suc rest.place;
      within = let l = rest.within in omega arith;
      is = rest.is ∙ moved n rest.place;
      there = rest.there;
    })

-- a file that is exchanged
pub files_set : (n : ℕ) (fs : List Filed) (k : ℕ) (f : Filed) → k < length fs → files_from n (set fs k f) ≡ map.insert (files_from n fs) (numbered (n + k)) f
files_set n [] k f h = absurd (omega (arith, h))
files_set n (old ∷ fs) zero f h = sym (inserted_twice (files_from (suc n) fs) (numbered n) old f) ∙ ap (λ (m : ℕ). map.insert (files_from n (old ∷ fs)) (numbered m) f) (omega arith)
files_set n (old ∷ fs) (suc k) f h =
    ap (λ (m : Files). map.insert m (numbered n) old) (files_set (suc n) fs k f (omega (arith, h)) ∙ ap (λ (i : Inode). map.insert (files_from (suc n) fs) i f) (moved n k))
    ∙ inserted_apart (files_from (suc n) fs) (numbered (n + suc k)) (numbered n) f old (later n k)

-- a file more
pub files_pushed : (n : ℕ) (fs : List Filed) (f : Filed) → files_from n (fs ++ f ∷ []) ≡ map.insert (files_from n fs) (numbered (n + length fs)) f
files_pushed n [] f = ap (λ (m : ℕ). map.insert map.empty (numbered m) f) (omega arith)
files_pushed n (old ∷ fs) f =
    ap (λ (m : Files). map.insert m (numbered n) old) (files_pushed (suc n) fs f ∙ ap (λ (i : Inode). map.insert (files_from (suc n) fs) i f) (moved n (length fs)))
    ∙ inserted_apart (files_from (suc n) fs) (numbered (n + suc (length fs))) (numbered n) f old (later n (length fs))

past : (fs : List Filed) (k : ℕ) (filed : Filed) → slice_get fs k ≡ Some filed → k < length fs
past [] k filed h = absurd (let e : None ≡ Some filed = h in cc)
past (f ∷ fs) zero filed h = omega arith
past (f ∷ fs) (suc k) filed h = let l = past fs k filed h in omega arith

-- no file has the next number
pub no_file_next : (n : ℕ) (fs : List Filed) → map.get (files_from n fs) (numbered (n + length fs)) ≡ None
no_file_next n fs = at (slice_get fs (length fs)) refl
  where
    at : (o : Option Filed) → slice_get fs (length fs) ≡ o → map.get (files_from n fs) (numbered (n + length fs)) ≡ None
    at None e = filed_at n fs (length fs) ∙ e
    at (Some filed) e = absurd (let l = past fs (length fs) filed e in omega arith)

-- a file fewer
pub files_popped : (fs more : List Filed) (f : Filed) → more ≡ fs ++ f ∷ [] → files_from 0 fs ≡ map.remove (files_from 0 more) (numbered (length fs))
files_popped fs more f is =
    let e : numbered (0 + length fs) ≡ numbered (length fs) = ap numbered (omega arith) in
    sym (removed_again (files_from 0 fs) (numbered (length fs)) f (ap (map.get (files_from 0 fs)) (sym e) ∙ no_file_next 0 fs))
    ∙ ap (λ (m : Files). map.remove m (numbered (length fs))) (sym (ap (files_from 0) is ∙ files_pushed 0 fs f ∙ ap (λ (i : Inode). map.insert (files_from 0 fs) i f) e))

there_is : (fs : List Filed) (k : ℕ) → k < length fs → (filed : Filed) × (slice_get fs k ≡ Some filed)
there_is [] k h = absurd (omega (arith, h))
there_is (f ∷ fs) zero h = (f, refl)
there_is (f ∷ fs) (suc k) h = there_is fs k (omega (arith, h))

pub is_filing : (fs : List Filed) → IsFiling (record { count = length fs; held = files_from 0 fs })
is_filing fs = record {
  given = λ n h. let f = there_is fs n h in (f.0, ap (map.get (files_from 0 fs)) (ap numbered (omega arith)) ∙ filed_at 0 fs n ∙ f.1);
  below = λ i filed h. let a = among 0 fs i filed h in (a.place, a.within, a.is ∙ ap numbered (omega arith));
}

-- ---- the file of an inode

-- it is at its number in the list
pub record IsHere (fs : List Filed) (i : Inode) (d : Filed) : Type 0 where
  pub within : i.ino < length fs
  pub is : i ≡ numbered i.ino
  pub there : map.get (files_from 0 fs) i ≡ Some (get_or fs i.ino d)

pub here : (fs : List Filed) (i : Inode) (d : Filed) → IsSome (map.get (files_from 0 fs) i) → IsHere fs i d
here fs i d known = at (map.get (files_from 0 fs) i) refl
  where
    found : (filed : Filed) → map.get (files_from 0 fs) i ≡ Some filed → IsAmong 0 fs i filed → IsHere fs i d
    found filed e a =
        let number : i.ino ≡ a.place = ap (λ (j : Inode). j.ino) a.is ∙ omega arith in
        record {
          within = omega (arith, number, a.within);
          is = a.is ∙ ap numbered (omega (arith, number));
          there = e ∙ ap Some (sym (ap (λ (k : ℕ). get_or fs k d) number ∙ get_or_from_slice_get fs a.place filed d a.there));
        }

    at : (o : Option Filed) → map.get (files_from 0 fs) i ≡ o → IsHere fs i d
    at None e = absurd (true≢false (sym (subst IsSome e known)))
    at (Some filed) e = found filed e (among 0 fs i filed e)

pub bytes_of_here : (fs : List Filed) (i : Inode) (d : Filed) → IsHere fs i d → bytes_in (each_value bytes_of (files_from 0 fs)) i ≡ bytes_of (get_or fs i.ino d)
bytes_of_here fs i d h = ap (λ (o : Option (List ℕ)). unwrap_or o []) (get_each inodes_total bytes_of (files_from 0 fs) i ∙ ap (option_map bytes_of) h.there)

pub files_changed : (fs : List Filed) (i : Inode) (d new : Filed) → IsHere fs i d → files_from 0 (set fs i.ino new) ≡ map.insert (files_from 0 fs) i new
files_changed fs i d new h = files_set 0 fs i.ino new h.within ∙ ap (λ (j : Inode). map.insert (files_from 0 fs) j new) (ap numbered (omega arith) ∙ sym h.is)

-- a number that is too great is no file's, and nor is another device's
pub not_here : (fs : List Filed) (i : Inode) → ((i.dev ≢ 1) ⊎ (length fs ≤ i.ino)) → map.get (files_from 0 fs) i ≡ None
not_here fs i off = at (map.get (files_from 0 fs) i) refl
  where
    never : (filed : Filed) → IsAmong 0 fs i filed → ((i.dev ≢ 1) ⊎ (length fs ≤ i.ino)) → ⊥
    never filed a (inl other) = other (ap (λ (j : Inode). j.dev) a.is)
    never filed a (inr past) = let number : i.ino ≡ 0 + a.place = ap (λ (j : Inode). j.ino) a.is in absurd (omega (arith, number, a.within, past))

    at : (o : Option Filed) → map.get (files_from 0 fs) i ≡ o → map.get (files_from 0 fs) i ≡ None
    at None e = e
    at (Some filed) e = absurd (never filed (among 0 fs i filed e) off)

-- a number below the count is that of the file there
pub found_here : (fs : List Filed) (i : Inode) (d : Filed) → i.dev ≡ 1 → i.ino < length fs → map.get (files_from 0 fs) i ≡ Some (get_or fs i.ino d)
found_here fs i d dev few =
    let is : i ≡ numbered (0 + i.ino) = (λ k. record { dev = dev k; ino = i.ino }) ∙ ap numbered (omega arith) in
    let f = there_is fs i.ino few in
    ap (map.get (files_from 0 fs)) is ∙ filed_at 0 fs i.ino ∙ f.1 ∙ ap Some (sym (get_or_from_slice_get fs i.ino f.0 d f.1))
