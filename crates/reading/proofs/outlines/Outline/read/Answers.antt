use Rattle.linking.specs.Rules.{rule_by}
use Rattle.segments.specs.Majors.{major}
use Rattle.reading.proofs.Mutual.{linking_mutual}
use Rattle.reading.proofs.outlines.Outline.read.Goals as goal

pub returns-clause-stems : goal.returns-clause-stems
returns-clause-stems c =
    linking_mutual (rule_by c.args.self.now.settings.now (major c.args.dim c.args.self.now.orientation)) c.in_ok-count.count
    c.build.new.table c.link.new.table c.link.ensures.linking
