-- Demand 3, from the laws of one call: the terms of a history are its tree's, with room for every key in its calls. Assumes nothing but those laws.
use Rattle.std.specs.Prelude.{◌≡◌, refl, List, [], true}
use Rattle.std.proofs.Common.{subst, le_refl}
use Rattle.node.specs.Entry.{Entry, rising}
use Rattle.tree.specs.State.{State, node_at}
use Rattle.history.specs.Walk.{walk_from, list_of}
use Rattle.history.specs.Statement.{Start, Begins, Turn, states, plains, passes, AllLend, AllAnswer, Holds, Demand3}
use Rattle.theorem.specs.model.Bounds.{Terms}
use Rattle.theorem.specs.model.Good.{found, Suits, Good}
use Rattle.theorem.specs.model.Ranks.{rises}
use Rattle.theorem.specs.one.Holds.{good_holds}
use Rattle.theorem.specs.Histories.{Laws, most_of, most_room, history}

-- the terms of a history
abbrev pub terms_of : Start → List Turn → Terms
terms_of g ts = record { order = g.disk.order; most = most_of ts; ksize = g.state.info.key_size; vsize = g.state.info.val_size }

pub terms_suit : (g : Start) (ts : List Turn) → Suits g (terms_of g ts)
terms_suit g ts = record { order = refl; ksize = refl; vsize = refl; most = most_room ts }

module _ (g : Start) (ts : List Turn) (laws : Laws g (terms_of g ts)) (begins : Begins g) (all : AllLend g ts g.state) where
  abbrev τ : Terms
  τ = terms_of g ts

  abbrev first : List Entry
  first = list_of (walk_from g.disk g.root)

  abbrev s : State
  s = states ts g.state

  abbrev es : List Entry
  es = plains g.disk.order ts g.state first

  -- after the whole history: answers, and the invariant
  pub history_good : AllAnswer g.disk.order ts g.state first × Good g τ (passes ts g.state) s es
  history_good = history g τ (terms_suit g ts) laws ts [] g.state first laws.opens all (le_refl _)

  rise : rising g.disk.order es ≡ true
  rise =
      let h = history_good.1 in
      subst (λ (xs : List Entry). rising g.disk.order xs ≡ true) h.holds
      (rises τ (found g τ) (node_at s) h.level h.lo h.hi (node_at s s.root) h.tree)

  history_holds : Holds g ts
  history_holds =
      record {
        answers = history_good.0;
        rises = rise;
        keys = history_good.1.key_count;
        hold = good_holds g τ begins (terms_suit g ts) (passes ts g.state) s es history_good.1;
        flushes = λ l p lists xid next f k e. laws.flushes (passes ts g.state) l s es history_good.1 p lists xid next f k e;
      }

-- demand 3, from the laws of one call
pub demand3_from : ((g : Start) (τ : Terms) → Begins g → Suits g τ → Laws g τ) → Demand3
demand3_from laws g ts begins all = history_holds g ts (laws g (terms_of g ts) begins (terms_suit g ts)) begins all
