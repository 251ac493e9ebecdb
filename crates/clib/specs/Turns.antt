-- What is done to a heap that its caller keeps.
use Rattle.std.specs.Prelude.{◌≡◌, ℕ, min, List, [], ◌++◌, length, take, drop, replicate, ℤ, pos, Ok, ◌≢◌}
use Rattle.scheme.specs.Meaning.{Meaning}
use Rattle.graph.specs.declared.Call.TheVariants.{Collect}
use Rattle.graph.specs.Graph.{bare}
use Rattle.graph.specs.Advance.{State}
use Rattle.heap.specs.declared.aside.Aside.{Aside}
use Rattle.heap.specs.Asides.{view_of, at_rest, begun, drawn}
use Rattle.heap.specs.Effects.{View}
use Rattle.heap.specs.Views.{Stands, Follows}
use Rattle.heap.specs.Phases.{Begins, Draws, Closes, GivesUp}
use Rattle.clib.specs.declared.forms.CallWords.{CallWords}
use Rattle.clib.specs.declared.forms.Answer.{Answer}
use Rattle.clib.specs.Errors.{out_of_turn}
use Rattle.clib.specs.Forms.{answered, answers}

abbrev pub StandsAt : Meaning → View → State → Type 0
StandsAt m v st = Stands m v st.graph st.standing

-- five words are answered as the still graph answers their call
pub record Answers (m : Meaning) (words : CallWords) (before after : View) (r : Answer) : Type 0 where
  pub told : (st : State) → StandsAt m before st → r ≡ (answered m before.limit words st).0
  pub stands : (st : State) → StandsAt m before st → StandsAt m after (answered m before.limit words st).1
  pub later : (st : State) → StandsAt m before st → drop before.limit after.words ≡ drop before.limit before.words
  pub limit : after.limit ≡ before.limit

-- A list is answered so, as far as there are calls and room for answers; `old` and `new` are the room before and after.
pub record Gives (m : Meaning) (calls : List CallWords) (before after : View) (old new : List Answer) (given : ℕ) : Type 0 where
  pub count : given ≡ min (length calls) (length old)
  pub told : (st : State) → StandsAt m before st → take given new ≡ (answers m before.limit (take given calls) st).0
  pub stands : (st : State) → StandsAt m before st → StandsAt m after (answers m before.limit (take given calls) st).1
  pub later : (st : State) → StandsAt m before st → drop before.limit after.words ≡ drop before.limit before.words
  pub limit : after.limit ≡ before.limit
  pub behind : drop given new ≡ drop given old

-- Calls from outside on a heap that was put aside: `a` with the words `ws` before, `b` with the words `vs` after.

-- The phase is read as that of a drawn heap. The functions for C write no other number for it than `drawn`.
pub record IsDrawn (a : Aside) : Type 0 where
  pub not_resting : a.phase ≡ at_rest → ⊥
  pub not_begun : a.phase ≡ begun → ⊥

-- a call out of turn does nothing
pub record Untouched (ws : List ℕ) (a : Aside) (vs : List ℕ) (b : Aside) (r : ℤ) : Type 0 where
  pub told : r ≡ out_of_turn
  pub aside : b ≡ a
  pub words : vs ≡ ws

-- a whole collection
pub record Collected (m : Meaning) (ws : List ℕ) (a : Aside) (vs : List ℕ) (b : Aside) (r : ℤ) : Type 0 where
  pub done : a.phase ≡ at_rest → Follows m Collect (view_of ws a) (view_of vs b) (Ok r) × (b.phase ≡ at_rest)
  pub refused : (a.phase ≢ at_rest) → Untouched ws a vs b r

-- a list of calls
pub record Listed (m : Meaning) (calls : List CallWords) (old new : List Answer) (ws : List ℕ) (a : Aside) (vs : List ℕ) (b : Aside) (r : ℤ) : Type 0 where
  pub done : a.phase ≡ at_rest → (given : ℕ) × (r ≡ pos given) × Gives m calls (view_of ws a) (view_of vs b) old new given × (b.phase ≡ at_rest)
  pub refused : (a.phase ≢ at_rest) → Untouched ws a vs b r × (new ≡ old)

-- the steps
pub record BegunBy (m : Meaning) (ws : List ℕ) (a : Aside) (vs : List ℕ) (b : Aside) (r : ℤ) : Type 0 where
  pub done : a.phase ≡ at_rest → Begins m (view_of ws a) (view_of vs b) b.live × (r ≡ pos b.live) × (b.phase ≡ begun)
  pub refused : (a.phase ≢ at_rest) → Untouched ws a vs b r

pub record DrawnBy (m : Meaning) (ws : List ℕ) (a : Aside) (vs : List ℕ) (b : Aside) (r : ℤ) : Type 0 where
  pub done : a.phase ≡ begun → Draws m (view_of ws a) (view_of vs b) × (b.live ≡ a.live) × (r ≡ pos 0) × (b.phase ≡ drawn)
  pub refused : (a.phase ≢ begun) → Untouched ws a vs b r

pub record ClosedBy (m : Meaning) (ws : List ℕ) (a : Aside) (vs : List ℕ) (b : Aside) (r : ℤ) : Type 0 where
  pub done : IsDrawn a → Closes m (view_of ws a) (view_of vs b) × (r ≡ pos a.live) × (b.phase ≡ at_rest)
  pub refused : (IsDrawn a → ⊥) → Untouched ws a vs b r

pub record GivenUpBy (m : Meaning) (ws : List ℕ) (a : Aside) (vs : List ℕ) (b : Aside) (r : ℤ) : Type 0 where
  pub done : a.phase ≡ begun → GivesUp m (view_of ws a) (view_of vs b) × (r ≡ pos 0) × (b.phase ≡ at_rest)
  pub refused : (a.phase ≢ begun) → Untouched ws a vs b r

-- a new heap over the words
pub record Opened (m : Meaning) (ws vs : List ℕ) (b : Aside) (r : ℤ) : Type 0 where
  pub stands : Stands m (view_of vs b) bare []
  pub words : vs ≡ replicate b.limit 0 ++ drop b.limit ws
  pub limit : b.limit ≡ min (length ws) 16384
  pub told : r ≡ pos b.limit
  pub phase : b.phase ≡ at_rest
