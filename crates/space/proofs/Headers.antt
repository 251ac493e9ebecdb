-- Where a cursor finds the header of an object, and the size of the object.
use Rattle.std.proofs.Common.{◌≡◌, ℕ, ◌-◌, ◌/◌, ◌<◌, ◌≤◌, Bool, true, false, List, slice_index, sym, refl, subst, arith}
use Rattle.std.proofs.lemmas.Bool.{false≢true}
use Rattle.space.specs.Weave.{Heads}
use Rattle.space.specs.Pass.{Sized, place_by}
use Rattle.space.specs.Met.{Among, Leads, HeaderAt, size_by, Read, Astray}

module _ (ws : List ℕ) (c p : ℕ) where
  -- it is among the words
  pub header-within : (up : Bool) (n : ℕ) → Among up n c → HeaderAt up ws c p → p < n
  header-within true n a at = let e : p ≡ c = at.place in omega (arith, a.upward refl)
  header-within false n a at =
      let e : p ≡ c - slice_index ws (c - 1) = at.place in
      let leads = at.leads refl in
      omega (arith, (a.downward refl).0, (a.downward refl).1, leads.some, leads.goes.downward refl)

  pub header-below : (up : Bool) → HeaderAt up ws c p → up ≡ false → p ≤ c
  header-below true at e = absurd (false≢true (sym e))
  header-below false at e = let e : p ≡ c - slice_index ws (c - 1) = at.place in omega arith

  module _ (h s : ℕ) where
    -- the size
    pub size-read : (up : Bool) (hs : List ℕ) → HeaderAt up ws c p → Heads ws hs p h → s ≡ size_by up c p h → Sized up ws hs c s
    size-read true hs at hd e = let is : p ≡ c = at.place in record { upward = λ z. (h, subst (λ x. Heads ws hs x h) is hd, e); downward = λ z. absurd (false≢true (sym z)) }
    size-read false hs at hd e =
        let is : p ≡ c - slice_index ws (c - 1) = at.place in
        let by : s ≡ c - p = e in
        record { upward = λ z. absurd (false≢true z); downward = λ z. omega (arith, (at.leads refl).goes.downward refl) }

    -- the header lies at the place of an object of that size
    place-sized : (up : Bool) → HeaderAt up ws c p → s ≡ size_by up c p h → p ≡ place_by up c s
    place-sized true at e = at.place
    place-sized false at e =
        let is : p ≡ c - slice_index ws (c - 1) = at.place in
        let by : s ≡ c - p = e in
        omega (arith, (at.leads refl).goes.downward refl)

    leads-on : (up : Bool) (n : ℕ) → n ≤ 16384 → Among up n c → h < 4294967296 → HeaderAt up ws c p → s ≡ size_by up c p h → 0 < s → Leads up c s
    leads-on true n most a small at e some =
        let by : s ≡ h / 16 = e in
        record { some = some; goes = record { upward = λ z. omega (arith, a.upward refl); downward = λ z. absurd (false≢true (sym z)) } }
    leads-on false n most a small at e some =
        let by : s ≡ c - p = e in
        record { some = some; goes = record { upward = λ z. absurd (false≢true z); downward = λ z. omega arith } }

-- a size of 0 leads nowhere
none-leads : (up : Bool) (c s : ℕ) → s ≡ 0 → Leads up c s → ⊥
none-leads up c s none l = omega (arith, l.some)

pub none-astray : (up : Bool) (ws hs : List ℕ) (c s : ℕ) → Sized up ws hs c s → s ≡ 0 → Astray up ws hs c
none-astray up ws hs c s sized none = record { size = s; sized = sized; nowhere = none-leads up c s none }

-- and any other is that of the object
pub reads-object : (up : Bool) (ws hs : List ℕ) (n c p h s : ℕ) → n ≤ 16384 → Among up n c → h < 4294967296 → HeaderAt up ws c p → Heads ws hs p h → s ≡ size_by up c p h → (s ≡ 0 → ⊥) →
    Read up ws hs c (record { place = p; size = s; header = h })
reads-object up ws hs n c p h s most a small at hd e some =
    record {
      sized = size-read ws c p h s up hs at hd e;
      place = place-sized ws c p h s up at e;
      header = hd;
      leads = leads-on ws c p h s up n most a small at e (omega arith);
    }
