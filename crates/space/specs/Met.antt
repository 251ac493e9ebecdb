-- The objects that a walk over a side meets.
use Rattle.std.specs.Prelude.{◌≡◌, ℕ, ◌+◌, ◌-◌, ◌/◌, ◌%◌, ◌^◌, ◌<◌, ◌≤◌, Bool, true, false, cond, List, Option, MatchOption, slice_index}
use Rattle.space.specs.Weave.{view, Heads, Unthreads}
use Rattle.space.specs.Pass.{Sized, size_seen, place_by}
use Rattle.space.specs.declared.side.Object.{Object}

-- The word by which a cursor reads a size is among the first n: the one before which it stands on its way up, the one behind which it stands on its way down.
pub record Among (up : Bool) (n c : ℕ) : Type 0 where
  pub upward : up ≡ true → c < n
  pub downward : up ≡ false → (0 < c) × (c ≤ n)

-- a cursor can go by so many words: up within 32 bits, down to word 0
pub record Goes (up : Bool) (c size : ℕ) : Type 0 where
  pub upward : up ≡ true → c + size < 2 ^ 32
  pub downward : up ≡ false → size ≤ c

-- the size leads the cursor on
pub record Leads (up : Bool) (c size : ℕ) : Type 0 where
  pub some : 0 < size
  pub goes : Goes up c size

-- where the header lies of the object that the cursor has come to: at the cursor on its way up, as far below it as the boundary tag says on its way down
pub record HeaderAt (up : Bool) (ws : List ℕ) (c p : ℕ) : Type 0 where
  pub place : p ≡ place_by up c (slice_index ws (c - 1))
  pub leads : up ≡ false → Leads up c (slice_index ws (c - 1))

-- on its way down there is none by a tag that leads nowhere
abbrev pub FindsHeader : Bool → List ℕ → ℕ → Option ℕ → Type 0
FindsHeader up ws c r = MatchOption r ((up ≡ false) × (Leads up c (slice_index ws (c - 1)) → ⊥)) (HeaderAt up ws c)

-- the size of the object with the header h at the place p
abbrev pub size_by : Bool → ℕ → ℕ → ℕ → ℕ
size_by up c p h = cond up (h / 16) (c - p)

-- Where nothing is threaded: the object is as its header and its boundary tag say.
pub record Seen (up : Bool) (ws : List ℕ) (c : ℕ) (o : Object) : Type 0 where
  pub sized : o.size ≡ size_seen up ws c
  pub place : o.place ≡ place_by up c o.size
  pub header : o.header ≡ slice_index ws o.place
  pub leads : Leads up c o.size

-- there is no object by a size that leads nowhere
abbrev pub Sees : Bool → List ℕ → ℕ → Option Object → Type 0
Sees up ws c o = MatchOption o (Leads up c (size_seen up ws c) → ⊥) (Seen up ws c)

-- Where references are threaded: the header stands at the end of the object's list.
-- the object whose size the cursor reads: where it lies by that size, and its header
pub record Read (up : Bool) (ws hs : List ℕ) (c : ℕ) (o : Object) : Type 0 where
  pub sized : Sized up ws hs c o.size
  pub place : o.place ≡ place_by up c o.size
  pub header : Heads ws hs o.place o.header
  pub leads : Leads up c o.size

-- the cursor reads a size that leads nowhere
pub record Astray (up : Bool) (ws hs : List ℕ) (c : ℕ) : Type 0 where
  pub size : ℕ
  pub sized : Sized up ws hs c size
  pub nowhere : Leads up c size → ⊥

abbrev pub Met : Bool → List ℕ → List ℕ → ℕ → Option Object → Type 0
Met up ws hs c o = MatchOption o (Astray up ws hs c) (Read up ws hs c)

-- What the list of the object has become, which is to lie before the new cursor t: each of its slots refers there, by the kind that its header tells.
-- Where there is no list, all is as it was.
pub record Unthreaded (up : Bool) (ws hs : List ℕ) (t : ℕ) (vs gs : List ℕ) (o : Object) : Type 0 where
  pub listed : Goes up t o.size → place_by up t o.size < 16384 → Unthreads ws hs o.place (place_by up t o.size) vs gs
  pub none : view ws hs o.place % 2 ≡ 1 → view vs gs ≡ view ws hs
