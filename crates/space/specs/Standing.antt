-- The standing objects of a heap, as a plan: every header is that of an object, and the two walks come to all of them.
use Rattle.std.specs.Prelude.{◌≡◌, ℕ, ◌+◌, ◌≤◌, true, false}
use Rattle.scheme.specs.Meaning.{Meaning}
use Rattle.space.specs.Pass.{Plan, Planned, Here, Course, Handles}

-- the object with its header at the place p ends within the first `limit` words
pub record Object (m : Meaning) (P : Plan) (limit p : ℕ) : Type 0 where
  pub size : ℕ
  pub new : ℕ
  pub number : ℕ
  pub here : Here m P true size new p number
  pub ends : p + size ≤ limit

-- every header of the plan is that of an object within the first `limit` words
pub record Standing (m : Meaning) (P : Plan) (limit : ℕ) : Type 0 where
  pub planned : Planned P
  pub handles : Handles P
  pub small : limit ≤ 16384
  pub holds : limit ≤ P.n
  pub object : (p : ℕ) → P.head p ≡ true → Object m P limit p

-- the walks over the two sides: the records are numbered from 1, the classes after them
pub record Sides (m : Meaning) (P : Plan) (limit low high : ℕ) : Type 0 where
  pub records : Course m P true
  pub classes : Course m P false
  pub records_from : 0 ≡ records.old 0
  pub records_end : low ≡ records.old records.many
  pub records_fit : low ≤ limit
  pub records_first : records.num 0 ≡ 0
  pub records_all : (j : ℕ) → records.stands j ≡ true → records.kept j ≡ true
  pub classes_from : limit ≡ classes.old 0
  pub classes_end : high ≡ classes.old classes.many
  pub classes_first : classes.num 0 ≡ records.num records.many
  pub classes_last : classes.num classes.many ≡ P.count
  pub classes_all : (j : ℕ) → classes.stands j ≡ true → classes.kept j ≡ true
