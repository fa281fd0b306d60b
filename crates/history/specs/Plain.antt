-- Demand 3's plain list: entries with rising keys, and what each call does to it (RULES: plain-list). It goes by the
-- order of keys alone and shares no function with the tree.
use Rattle.std.specs.Prelude.{List, [], ◌∷◌, Bool, false, cond, ◌&&◌, not, ℕ, eqb}
use Rattle.tree.specs.Format.{Entry, Val, leaf, u64_at, less, pair_key}
use Rattle.tree.specs.Omap.{omap_value}

-- upsert replaces its key's value, or inserts
unfoldable pub plain_upsert : ℕ → List ℕ → Val → List Entry → List Entry
plain_upsert o k v [] = record { key = k; value = v } ∷ []
plain_upsert o k v (e ∷ es) =
    cond (less o e.key k) (e ∷ plain_upsert o k v es)
    (cond (less o k e.key) (record { key = k; value = v } ∷ e ∷ es) (record { key = e.key; value = v } ∷ es))

-- remove takes its key out
unfoldable pub plain_remove : ℕ → List ℕ → List Entry → List Entry
plain_remove o k [] = []
plain_remove o k (e ∷ es) = cond (less o e.key k) (e ∷ plain_remove o k es) (cond (less o k e.key) (e ∷ es) es)

-- whether a key is there
unfoldable pub plain_has : ℕ → List ℕ → List Entry → Bool
plain_has o k [] = false
plain_has o k (e ∷ es) = cond (less o e.key k) (plain_has o k es) (not (less o k e.key))

-- drop takes out its id's entries
unfoldable pub plain_drop : ℕ → List Entry → List Entry
plain_drop id [] = []
plain_drop id (e ∷ es) = cond (eqb (u64_at e.key 0) id) (plain_drop id es) (e ∷ plain_drop id es)

-- put is drop, then upsert
unfoldable pub plain_put : ℕ → ℕ → ℕ → ℕ → ℕ → List Entry → List Entry
plain_put o id xid address size es = plain_upsert o (pair_key id xid) (leaf (omap_value size address)) (plain_drop id es)

-- get: what the key holds, none or one
unfoldable pub plain_get : ℕ → List ℕ → List Entry → List Val
plain_get o k [] = []
plain_get o k (e ∷ es) = cond (less o e.key k) (plain_get o k es) (cond (less o k e.key) [] (e.value ∷ []))

-- the last of two answers
unfoldable pub or_later : Entry → List Entry → List Entry
or_later e [] = e ∷ []
or_later e (f ∷ fs) = f ∷ fs

-- floor: the last key not above, none or one
unfoldable pub plain_floor : ℕ → List ℕ → List Entry → List Entry
plain_floor o k [] = []
plain_floor o k (e ∷ es) = cond (less o k e.key) [] (or_later e (plain_floor o k es))

-- range: lo ≤ key < hi
unfoldable pub plain_range : ℕ → List ℕ → List ℕ → List Entry → List Entry
plain_range o lo hi [] = []
plain_range o lo hi (e ∷ es) = cond (not (less o e.key lo) && less o e.key hi) (e ∷ plain_range o lo hi es) (plain_range o lo hi es)
