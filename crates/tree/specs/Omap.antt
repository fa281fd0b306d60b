-- Object-map put and drop, one call each (RULES: omap).
use Rattle.std.specs.Prelude.{List, [], ◌∷◌, ◌++◌, Bool, cond, ◌&&◌, ℕ, suc, ◌-◌, ◌^◌, eqb}
use Rattle.node.specs.Bytes.{bytes_of}
use Rattle.node.specs.Result.{Result, ok, ◌>>=◌, ◌>>◌, check}
use Rattle.node.specs.Refusals as refusal
use Rattle.node.specs.Order.{pair, pair_key}
use Rattle.node.specs.Entry.{Entry, leaf}
use Rattle.tree.specs.Lent.{Lent}
use Rattle.tree.specs.State.{State, node_at}
use Rattle.tree.specs.Hold.{lent_holds}
use Rattle.tree.specs.Load.{unbounded}
use Rattle.tree.specs.Lookup.{range_from}
use Rattle.tree.specs.Upsert.{upserted}
use Rattle.tree.specs.Remove.{removed}

-- 12: pair order with 16-byte keys and values
unfoldable pub is_omap : State → Bool
is_omap s = eqb s.order pair && eqb s.info.key_size 16 && eqb s.info.val_size 16

-- the end of an id's versions: the next id's first; the last id has none
unfoldable pub versions_end : ℕ → List (List ℕ)
versions_end id = cond (eqb id (2 ^ 64 - 1)) [] (pair_key (suc id) 0 ∷ [])

-- each remove in key order
unfoldable pub remove_all : Lent → List Entry → State → Result State
remove_all l [] s = ok s
remove_all l (e ∷ es) s = removed l s e.key >>= λ r. remove_all l es r.state

-- the loads of the range, each remove in key order
unfoldable pub dropped : Lent → State → ℕ → Result State
dropped l s id =
    range_from (node_at s s.root).level l (pair_key id 0) (versions_end id) s unbounded s.root
    >>= λ g. remove_all l g.answer g.state

-- omap_val_t: flags 0, size, address
unfoldable pub omap_value : ℕ → ℕ → List ℕ
omap_value size address = bytes_of 4 0 ++ bytes_of 4 size ++ bytes_of 8 address

-- 12; the drop
unfoldable pub omap_drop_in : Lent → State → ℕ → Result State
omap_drop_in l s id = do
  check refusal.argument (is_omap s)
  dropped l s id

-- 1; what follows
unfoldable pub omap_drop : Lent → State → ℕ → Result State
omap_drop l s id = do
  check refusal.lent (lent_holds l s)
  omap_drop_in l s id

-- 12; the drop; the upsert
unfoldable pub omap_put_in : Lent → State → ℕ → ℕ → ℕ → ℕ → Result State
omap_put_in l s id xid address size = do
  check refusal.argument (is_omap s)
  t ← dropped l s id
  upserted l t (pair_key id xid) (leaf (omap_value size address))

-- 1; what follows
unfoldable pub omap_put : Lent → State → ℕ → ℕ → ℕ → ℕ → Result State
omap_put l s id xid address size = do
  check refusal.lent (lent_holds l s)
  omap_put_in l s id xid address size
