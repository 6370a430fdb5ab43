-- Stems: pairs of segments that are each other's link.
use Rattle.std.specs.Prelude.{◌≡◌, ℕ, ◌+◌, Bool, false, ◌&&◌, List, map, length, is_some, Some, None, Option, ◌==◌, ◌≢◌, nat_lt, slice_index_or}
use Rattle.std.specs.List.{count_by, range_with_len, sum_by}
use Rattle.segments.specs.declared.tables.Segment.{Segment}

-- the link of entry i; none where the table has no entry i
abbrev pub link_at : List Segment → ℕ → Option ℕ
link_at ss i = slice_index_or (map (λ s. s.link) ss) i None

-- whether a link is the index j
abbrev pub is_index : Option ℕ → ℕ → Bool
is_index None j = false
is_index (Some k) j = k == j

-- entries i and j, the earlier first, are each other's link
abbrev pub stem : List Segment → ℕ → ℕ → Bool
stem ss i j = nat_lt i j && is_index (link_at ss i) j && is_index (link_at ss j) i

-- entry i is the earlier of a stem: its link is a later entry, whose link is i
abbrev pub opens_to : List Segment → ℕ → Option ℕ → Bool
opens_to ss i None = false
opens_to ss i (Some j) = nat_lt i j && is_index (link_at ss j) i

abbrev pub opens : List Segment → ℕ → Bool
opens ss i = opens_to ss i (link_at ss i)

-- the indices of a table's entries
abbrev pub indices : List Segment → List ℕ
indices ss = range_with_len 0 (length ss)

-- how many pairs of a table's entries are stems
abbrev pub stem_count : List Segment → ℕ
stem_count ss = sum_by (λ i. count_by (stem ss i) (indices ss)) (indices ss)

-- each link is returned, and none is to the entry itself
abbrev pub Returned : List Segment → Type 0
Returned ss = (i j : ℕ) → link_at ss i ≡ Some j → (link_at ss j ≡ Some i) × (i ≢ j)

-- how many entries have a link
abbrev pub linked_count : List Segment → ℕ
linked_count ss = count_by (λ i. is_some (link_at ss i)) (indices ss)

-- n is half of the linked entries, where links are returned
abbrev pub Halves : List Segment → ℕ → Type 0
Halves ss n = Returned ss → n + n ≡ linked_count ss
