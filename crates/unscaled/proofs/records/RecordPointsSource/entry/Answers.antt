use Rattle.std.proofs.Common.{[], ◌∙◌, rules}
use Rattle.unscaled.proofs.Bytes.{entry_found, entry_past}
use Rattle.unscaled.proofs.records.RecordPointsSource.entry.Goals as goal

pub returns-in-Some-clause-value : goal.returns-in-Some-clause-value
returns-in-Some-clause-value c =
    let chunks = c.as_chunks.ensures in
    let found = c.in-Some.ensures.lookup.3 in
    c.point_of.ensures ∙ entry_found _ _ _ _ _ chunks.front chunks.front_len found.0 (found.1 [])

pub returns-in-None-clause-value : goal.returns-in-None-clause-value
returns-in-None-clause-value c = search (rules, entry_past)
