-- A heap put aside: between two calls from outside it is its memory, its scheme and a few words.
use Rattle.std.specs.Prelude.{◌≡◌, ℕ, List, ◌≢◌}
use Rattle.heap.specs.declared.Heap.{Heap}
use Rattle.heap.specs.declared.aside.Aside.{Aside}
use Rattle.heap.specs.declared.aside.Phase.{Phase}
use Rattle.heap.specs.declared.aside.Phase.TheVariants.{Resting, Begun, Drawn}
use Rattle.heap.specs.Effects.{View, parts}

-- the heap of a memory, a scheme and what was put aside
abbrev pub heap_of : {M S : Type 0} → M → S → Aside → Heap M S
heap_of memory scheme a = record { space = record { memory = memory; handles = a.handles }; scheme = scheme; bounds = record { low = a.low; high = a.high; limit = a.limit } }

-- the same by the memory's words
abbrev pub view_of : List ℕ → Aside → View
view_of words a = parts words a.handles a.low a.high a.limit

-- The numbers of the three phases, as C reads them: of a heap at rest, of a begun one and of a drawn one.
abbrev pub at_rest : ℕ
at_rest = 0

abbrev pub begun : ℕ
begun = 1

abbrev pub drawn : ℕ
drawn = 2

abbrev pub phase_number : {M S : Type 0} → Phase M S → ℕ
phase_number (Resting h) = at_rest
phase_number (Begun b) = begun
phase_number (Drawn d) = drawn

-- The heap and its phase are what was put aside. C may hand back any number: one that is neither of the first two is read as that of a drawn heap.
abbrev pub Resumes : {M S : Type 0} → M → S → Aside → Phase M S → Type 0
Resumes memory scheme a (Resting h) = (a.phase ≡ at_rest) × (h ≡ heap_of memory scheme a)
Resumes memory scheme a (Begun b) = (a.phase ≡ begun) × (b.heap ≡ heap_of memory scheme a) × (b.live ≡ a.live)
Resumes memory scheme a (Drawn d) = (a.phase ≢ at_rest) × (a.phase ≢ begun) × (d.heap ≡ heap_of memory scheme a) × (d.live ≡ a.live)

-- what is put aside of a heap: it is resumed from that, and the phase stands there by its own number
abbrev pub Suspends : {M S : Type 0} → Phase M S → M → S → Aside → Type 0
Suspends p memory scheme a = Resumes memory scheme a p × (a.phase ≡ phase_number p)
