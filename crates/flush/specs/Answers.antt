-- What flush's answer means, of the image, the slots and the lists that it leaves.
use Rattle.std.specs.Prelude.{◌≡◌, List, [], ◌∷◌, ◌++◌, true, cond, ℕ, zero, suc, length, get_or, take, drop, eqb, Ok, Err}
use Rattle.std.specs.Prelude as std
use Rattle.tree.specs.Refusals.{Refusal, number_of}
use Rattle.tree.specs.Format.{Result, ok, refused}
use Rattle.tree.specs.Lent.{Lent}
use Rattle.tree.specs.Workspace.{nodes_of, workspace_holds, called}
use Rattle.tree.specs.declared.editor.Tree.{Tree}
use Rattle.flush.specs.Space.{Space}
use Rattle.flush.specs.Flush.{Flushed, Lists, flush}
use Rattle.flush.specs.declared.flush.Flushed as done

-- the first k pairs of two lists: `moved` is lent as a list of ids and a list of addresses
unfoldable pub pairs_of : ℕ → List ℕ → List ℕ → List (ℕ × ℕ)
pairs_of zero ids places = []
pairs_of (suc k) ids places = pairs_of k ids places ++ (get_or ids k 0, get_or places k 0) ∷ []

-- how long the report lists are: two lists of different lengths are no list of pairs
unfoldable pub lists_of : List ℕ → List ℕ → List ℕ → List ℕ → Lists
lists_of freed removed ids places =
    record { freed = length freed; removed = length removed; moved = cond (eqb (length ids) (length places)) (length ids) 0 }

-- an accepted flush: what it answers, and what stands in the image, the chunks, the slots and at the start of each list
unfoldable pub flushed_of : ℕ → Tree → List ℕ → Space → List ℕ → List ℕ → List ℕ → List ℕ → List ℕ → List ℕ → done.Flushed → Flushed
flushed_of size t image p heads bytes freed removed ids places f =
    record {
      root = f.root;
      allocated = f.done.allocated;
      freed_count = f.done.freed;
      removed_count = f.done.removed;
      moved_count = f.done.moved;
      keys = f.keys;
      fill = f.fill;
      after = record {
        image = image;
        space = p;
        nodes = nodes_of size heads bytes t.used;
        next = f.done.next;
        freed = take f.done.freed freed;
        removed = take f.done.removed removed;
        moved = pairs_of f.done.moved ids places;
        allocated = f.done.allocated;
      };
    }

-- flush's answer: a refusal, or what was flushed
unfoldable pub flushed_means : ℕ → Tree → List ℕ → Space → List ℕ → List ℕ → List ℕ → List ℕ → List ℕ → List ℕ → std.Result done.Flushed Refusal
    → Result Flushed
flushed_means size t image p heads bytes freed removed ids places (Err x) = refused (number_of x)
flushed_means size t image p heads bytes freed removed ids places (Ok f) = ok
    (flushed_of size t image p heads bytes freed removed ids places f)

-- flush on lent words and bytes: 1 of the workspace, then flush
unfoldable pub flushed_in : Lent → Space → Lists → Tree → List ℕ → List ℕ → ℕ → ℕ → Result Flushed
flushed_in l p lists t heads bytes xid next = called l.size l.slots t heads bytes (λ s. flush l p lists s xid next)

-- a refused flush leaves everything as it was
pub record Untouched (image image' : List ℕ) (p p' : Space)
    (heads heads' freed freed' removed removed' ids ids' places places' : List ℕ) : Type 0 where
  pub on_image : image' ≡ image
  pub on_space : p' ≡ p
  pub on_slots : heads' ≡ heads
  pub on_freed : freed' ≡ freed
  pub on_removed : removed' ≡ removed
  pub on_ids : ids' ≡ ids
  pub on_places : places' ≡ places

-- an accepted one leaves each list past what it reports as it was
pub record Beyond (f : done.Flushed) (freed freed' removed removed' ids ids' places places' : List ℕ) : Type 0 where
  pub on_freed : drop f.done.freed freed' ≡ drop f.done.freed freed
  pub on_removed : drop f.done.removed removed' ≡ drop f.done.removed removed
  pub on_ids : drop f.done.moved ids' ≡ drop f.done.moved ids
  pub on_places : drop f.done.moved places' ≡ drop f.done.moved places

-- what is left beside what was flushed; after an accepted flush the slots are such that the next call accepts them
abbrev pub flushed_leaves : ℕ → ℕ → Tree → List ℕ → List ℕ → Space → Space → List ℕ → List ℕ → List ℕ → List ℕ → List ℕ → List ℕ → List ℕ
    → List ℕ → List ℕ
    → List ℕ → List ℕ → std.Result done.Flushed Refusal → Type 0
flushed_leaves size slots t image image' p p' heads heads' bytes freed freed' removed removed' ids ids' places places' (Err x) =
    Untouched image image' p p' heads heads' freed freed' removed removed' ids ids' places places'
flushed_leaves size slots t image image' p p' heads heads' bytes freed freed' removed removed' ids ids' places places' (Ok f) =
    Beyond f freed freed' removed removed' ids ids' places places' × (workspace_holds size slots t.used heads' bytes ≡ true)
