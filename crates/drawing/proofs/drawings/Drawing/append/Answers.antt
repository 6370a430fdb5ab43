use Rattle.std.proofs.Common.{arith}
use Rattle.drawing.specs.Books.{book}
use Rattle.drawing.proofs.Joined.{appended_more, room-more}
use Rattle.drawing.proofs.drawings.Drawing.append.Goals as goal

pub append_one-requires-clause-points : goal.append_one-requires-clause-points
append_one-requires-clause-points c =
    room-more (book c.args.self.now) (book c.loop-k.self) (book c.args.other.now) c.args.from c.loop-k.k c.args.to c.loop-k.auto.k c.loop-k-test.true c.requires.there c.loop-k.invariant c.requires.points

pub loop-k-preserved : goal.loop-k-preserved
loop-k-preserved c =
    appended_more (book c.args.self.now) (book c.loop-k.self) (book c.args.other.now) _ c.args.from c.loop-k.k c.loop-k.auto.k (omega (arith, c.requires.there, c.loop-k-test.true)) c.loop-k.invariant c.append_one.ensures
