-- What is at a path after one is written or removed, and host paths that are apart.
use Rattle.std.proofs.Common.{◌≡◌, ◌≢◌, ℕ, List, ◌++◌, Some, None, refl, sym, ap₂, ◌∙◌, take, drop, take-append-drop}
use Rattle.std.specs.FinMap.{get, insert, remove}
use Rattle.outside.specs.Disk.{Node as Thing, Disk}
use Rattle.outside.proofs.Paths.{set_here, set_there}
use Rattle.clear_tree.specs.Places.{host_two, host_folder, host_entry, host_inner}

pub get_put : (d : Disk) (k : List (List ℕ)) (x : Thing) → get (insert d k x) k ≡ Some x
get_put d k x = set_here d k (Some x) k refl

pub get_put_other : (d : Disk) (k : List (List ℕ)) (x : Thing) (q : List (List ℕ)) → q ≢ k → get (insert d k x) q ≡ get d q
get_put_other d k x q h = set_there d k (Some x) q h

pub get_gone : (d : Disk) (k : List (List ℕ)) → get (remove d k) k ≡ None
get_gone d k = set_here d k None k refl

pub get_gone_other : (d : Disk) (k : List (List ℕ)) (q : List (List ℕ)) → q ≢ k → get (remove d k) q ≡ get d q
get_gone_other d k q h = set_there d k None q h

-- a folder's 32 characters are known by their two parts
pub whole : (g h : List ℕ) → take 2 g ≡ take 2 h → drop 2 g ≡ drop 2 h → g ≡ h
whole g h a b = sym (take-append-drop 2 g) ∙ ap₂ (λ (x y : List ℕ). x ++ y) a b ∙ take-append-drop 2 h

pub entry_is : (g u h t : List ℕ) → host_entry g u ≡ host_entry h t → (g ≡ h) × (u ≡ t)
entry_is g u h t e =
    let a : take 2 g ≡ take 2 h = cc in
    let b : drop 2 g ≡ drop 2 h = cc in
    let c : u ≡ t = cc in
    (whole g h a b, c)

pub inner_is : (g u h t k l : List ℕ) → host_inner g u k ≡ host_inner h t l → (g ≡ h) × (u ≡ t) × (k ≡ l)
inner_is g u h t k l e =
    let a : take 2 g ≡ take 2 h = cc in
    let b : drop 2 g ≡ drop 2 h = cc in
    let c : u ≡ t = cc in
    let f : k ≡ l = cc in
    (whole g h a b, c, f)

pub folder_is : (g h : List ℕ) → host_folder g ≡ host_folder h → g ≡ h
folder_is g h e =
    let a : take 2 g ≡ take 2 h = cc in
    let b : drop 2 g ≡ drop 2 h = cc in
    whole g h a b

-- no path of one depth is of another
pub folder_entry : (g h t : List ℕ) → host_folder g ≢ host_entry h t
folder_entry g h t e = cc

pub folder_inner : (g h t k : List ℕ) → host_folder g ≢ host_inner h t k
folder_inner g h t k e = cc

pub folder_two : (g h : List ℕ) → host_folder g ≢ host_two h
folder_two g h e = cc

pub entry_folder : (g u h : List ℕ) → host_entry g u ≢ host_folder h
entry_folder g u h e = cc

pub entry_inner : (g u h t k : List ℕ) → host_entry g u ≢ host_inner h t k
entry_inner g u h t k e = cc

pub entry_two : (g u h : List ℕ) → host_entry g u ≢ host_two h
entry_two g u h e = cc

pub inner_entry : (g u k h t : List ℕ) → host_inner g u k ≢ host_entry h t
inner_entry g u k h t e = cc

pub inner_folder : (g u k h : List ℕ) → host_inner g u k ≢ host_folder h
inner_folder g u k h e = cc

pub inner_two : (g u k h : List ℕ) → host_inner g u k ≢ host_two h
inner_two g u k h e = cc
