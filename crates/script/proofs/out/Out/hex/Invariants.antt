use Rattle.std.proofs.Common.{◌≡◌}
use Rattle.std.specs.Slice.Iter.{chunks_rest, chunks_size}
use Rattle.script.specs.declared.out.Out.{Out}
use Rattle.script.specs.Out.{Gathers, hex_text}
use Rattle.script.proofs.out.Out.hex.Given as goal

-- what gathers the rest from here on gathers all from the start
abbrev pub invariant-loop-part : goal.invariant-loop-part
invariant-loop-part g l = record {
  size : chunks_size l.part-iterator ≡ 64;
  shown : (p : Out g.row.W.Denot) → Gathers g.W.Write.contents l.self p (hex_text (chunks_rest l.part-iterator))
      → Gathers g.W.Write.contents l.initial.self p (hex_text l.s);
}
