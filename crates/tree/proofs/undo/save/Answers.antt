use mathlib.Core.Path.{refl}
use Rattle.tree.specs.laws.slots.Copy.{save_before, save_now}
use Rattle.tree.proofs.undo.save.Goals as goal

pub returns-then-heads-at-ne0 : goal.returns-then-heads-at-ne0
returns-then-heads-at-ne0 c = save_before _ _ _ _ _ _ c.requires.ready c.requires.n_lt_used c.if-heads-at-ne0.true

pub returns : goal.returns
returns c =
    save_now _ _ _ _ _ _ c.requires.ready c.requires.n_lt_used _ _ _ c.copy_slot.auto.heads c.if-heads-at-ne0.false c.copy_slot.ensures refl
