-- Finding a key among entries in key order (RULES: way).
use Rattle.std.specs.Prelude.{List, [], ◌∷◌, Bool, false, cond, not, ℕ, suc, ◌-◌, length, take, drop, get_or}
use Rattle.node.specs.Order.{less}
use Rattle.node.specs.Entry.{Entry, Val, ghost}

-- the place of a key: how many leading entries have a key below it
unfoldable pub place_of : ℕ → List ℕ → List Entry → ℕ
place_of o k [] = 0
place_of o k (e ∷ es) = cond (less o e.key k) (suc (place_of o k es)) 0

-- whether the key is there: the entry at its place has a key that is not above it
unfoldable pub is_there : ℕ → List ℕ → List Entry → Bool
is_there o k [] = false
is_there o k (e ∷ es) = cond (less o e.key k) (is_there o k es) (not (less o k e.key))

-- how many leading entries have a key that is not above it
unfoldable pub not_above : ℕ → List ℕ → List Entry → ℕ
not_above o k [] = 0
not_above o k (e ∷ es) = cond (less o k e.key) 0 (suc (not_above o k es))

-- the way to a key: the last key not above it, else child 0
unfoldable pub way_index : ℕ → List ℕ → List Entry → ℕ
way_index o k es = not_above o k es - 1

-- the last entry whose key is not above k: none or one
unfoldable pub last_not_above : ℕ → List ℕ → List Entry → List Entry
last_not_above o k es = drop (not_above o k es - 1) (take (not_above o k es) es)

-- the last entry: none or one
unfoldable pub last_of : List Entry → List Entry
last_of es = drop (length es - 1) es

-- the key of entry i
unfoldable pub key_at : List Entry → ℕ → List ℕ
key_at es i = (get_or es i (record { key = []; value = ghost })).key

-- what entry i holds
unfoldable pub val_at : List Entry → ℕ → Val
val_at es i = (get_or es i (record { key = []; value = ghost })).value
