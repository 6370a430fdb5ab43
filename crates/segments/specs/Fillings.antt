-- What the steps of the builder do to the table.
use Rattle.std.specs.Prelude.{◌≡◌, ℕ, ◌+◌, ◌<◌, ◌≤◌, true, List, length, map, fold, Some, None, Ok, Err, Result, slice_set}
use Rattle.std.specs.Borrow.{MutBor}
use Rattle.outline.specs.declared.points.Point.{Point}
use Rattle.segments.specs.declared.faults.BuildFault.{BuildFault}
use Rattle.segments.specs.declared.fillings.Filling.{Filling}
use Rattle.segments.specs.declared.measures.Dimension.{Dimension}
use Rattle.segments.specs.declared.states.State.{State}
use Rattle.segments.specs.declared.tables.Segment.{Segment}
use Rattle.segments.specs.Building.{Built, segs_of, put, visited, numbered, count_with, latest_with, table_with}
use Rattle.segments.specs.Closing.{survivor, place_of}
use Rattle.segments.specs.Measures.{seen}
use Rattle.segments.specs.Segments.{segment_of}
use Rattle.segments.specs.Walks.{Moved}

-- nothing is held yet
pub record Starts (dim : Dimension) (units : ℕ) (t : MutBor (List Segment)) (f : Filling) : Type 0 where
  pub same_table : f.table.ghost_name ≡ t.ghost_name
  pub dim_is : f.dim ≡ dim
  pub units_is : f.units ≡ units
  pub table_is : f.table.now ≡ t.now
  pub held_is : f.held ≡ 0

-- the same table is held, and the axis and the units stay
pub record Along (f f' : Filling) : Type 0 where
  pub same_table : f'.table.ghost_name ≡ f.table.ghost_name
  pub dim_is : f'.dim ≡ f.dim
  pub units_is : f'.units ≡ f.units

-- the open segment closes as s
pub record Closes (f f' : Filling) (s : State) : Type 0 where
  pub along : Along f f'
  pub inside_is : f'.inside ≡ None
  pub latest_is : f'.latest ≡ Some (survivor f.latest s)
  pub held_is : f'.held ≡ place_of f.held f.latest s + 1
  pub table_is : f'.table.now ≡ slice_set f.table.now (place_of f.held f.latest s) (segment_of f.units (survivor f.latest s))

-- the segment s opens, and nothing else changes
pub record OpensAs (f f' : Filling) (s : State) : Type 0 where
  pub along : Along f f'
  pub inside_is : f'.inside ≡ Some s
  pub latest_is : f'.latest ≡ f.latest
  pub held_is : f'.held ≡ f.held
  pub table_is : f'.table.now ≡ f.table.now
  pub few : f.held ≤ 1000

-- unless more than 1,000 are held
abbrev pub Opened : Filling → Filling → State → Result Unit BuildFault → Type 0
Opened f f' s (Ok x) = OpensAs f f' s
Opened f f' s (Err e) = 1000 < f.held

-- what one step of the walk leaves
pub record Moves (f f' : Filling) (m : Moved) : Type 0 where
  pub along : Along f f'
  pub inside_is : f'.inside ≡ m.walk
  pub latest_is : f'.latest ≡ latest_with f.latest m.closed
  pub held_is : f'.held ≡ count_with f.held f.latest m.closed
  pub table_is : f'.table.now ≡ table_with f.units f.table.now f.held f.latest m.closed
  pub few : m.opens ≡ true → f'.held ≤ 1000

-- unless a segment would open while more than 1,000 are held
abbrev pub Met : Filling → Filling → Moved → Result Unit BuildFault → Type 0
Met f f' m (Ok x) = Moves f f' m
Met f f' m (Err e) = (m.opens ≡ true) × (1000 < count_with f.held f.latest m.closed)

-- the table as it stands for a contour that is built as b after the first h entries of t
pub record Stands (t : List Segment) (h : ℕ) (b : Built) (f : Filling) : Type 0 where
  pub long : 1001 ≤ length t
  pub inside_is : f.inside ≡ b.walk
  pub latest_is : f.latest ≡ b.latest
  pub held_is : f.held ≡ h + length (segs_of b)
  pub table_is : f.table.now ≡ put t h (map (segment_of f.units) (segs_of b))
  pub fits : h + b.room ≤ 1001

-- so it stands in the end, unless more than 1,001 would be held at once
abbrev pub Reached : Filling → Filling → List Segment → ℕ → Built → Result Unit BuildFault → Type 0
Reached f f' t h b (Ok x) = Along f f' × Stands t h b f'
Reached f f' t h b (Err e) = 1001 < h + b.room

-- the walk met the points ps, the first of which stands at place i of a contour that begins at base
abbrev pub Passed : Filling → Filling → ℕ → List Point → Result Unit BuildFault → Type 0
Passed f f' first ps r = (t : List Segment) (h base i : ℕ) (b : Built) → first ≡ base + i → Stands t h b f →
    Reached f f' t h (fold (visited f.dim base) b (numbered i (map (seen f.dim) ps))) r

-- a contour that is built as b has its segments after those that were held; it is refused where more than 1,001 would be held at once
abbrev pub BuiltAs : Filling → Filling → Built → Result Unit BuildFault → Type 0
BuiltAs f f' b (Ok x) =
    Along f f' × (f.held + b.room ≤ 1001) × (f'.held ≡ f.held + length (segs_of b)) ×
    (f'.table.now ≡ put f.table.now f.held (map (segment_of f.units) (segs_of b)))
BuiltAs f f' b (Err e) = 1001 < f.held + b.room
