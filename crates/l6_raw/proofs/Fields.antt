-- The fields of the memory, of its deallocation token and of both together, as the machine stores
-- them. A struct of plain fields is made of nothing; what it owns after its pointer is beside.
-- Assumes `Logic`.
use Rattle.std.proofs.Common.{◌≡◌, ℕ, ◌<◌, ◌^◌, List, [], ◌∷◌, ◌++◌, refl, ap, ◌∙◌, w64}
use seplogic.Ra.Ura.{Ura}
use base.Fml.{Fml}
use base.Logic.{ent, emp}
use mir.Val.{Val, vint, vstruct, vcons, vnil, of_list}
use types.Kit.{‵, ⋆, ◌$◌, ◌∵◌, !, qed, by, move, fjoin, fpack, feq_i, done}
use types.Logic.{Logic, sem}
use denote.Laws.{Is}
use denote.RattleType.{RattleType, Denots, Valss, owns, flat}
use denote.RawPtr.{Ptr, ptr_val}
use denote.Steps.{nothing}
use denote.Struct.Declared as Declared
use denote.Struct.Owning.{shape}
use denote.Struct.Struct.{Shape, Struct, Struct-Makes, within}
use denote.Struct.Tuple.{Tuple, tuple_type}
use Rattle.l6_raw.specs.contracts.memory.RawMemory as RawMemory

-- the memory's fields alone, without what it owns after its pointer
abbrev pub Fields : RattleType
Fields = Struct (shape RawMemory.the_type)

abbrev pub memory_val : Ptr → ℕ → ℕ → Val
memory_val start room written =
    vstruct (vcons (ptr_val start) (vcons (vint w64 room) (vcons (vint w64 written) vnil)))

abbrev pub fields_own : Ptr → ℕ → ℕ → Fml
fields_own start room written =
    Fields.own_val (start, (room, (written, tt))) (memory_val start room written ∷ [])

-- the token has no field that the machine knows, but a tag of its allocator's type
abbrev pub token_val : Val
token_val = vstruct (vcons (vstruct vnil) vnil)

-- a struct whose one field is a struct without fields
abbrev Tagged : RattleType
Tagged = Struct (record {
  name = [];
  args = [];
  types = [];
  fields = Struct (record { name = []; args = []; types = []; fields = [] }) ∷ [];
})

-- so that is what is stored of it
pub token_known : (vs : List Val) → Is Tagged (tt, tt) vs → vs ≡ token_val ∷ []
token_known vs is =
    let fields = is.1 in
    fields.0 ∙ ap (λ (field : List Val). vstruct (of_list (field ++ [])) ∷ []) fields.1.0.1.0

module _ {M : Type 1} {𝓤 : Ura M} (𝓛 : Logic 𝓤) where
  pub fields_made : (start : Ptr) (room written : ℕ) → room < 2 ^ 64 → written < 2 ^ 64 →
      ent 𝓤 (emp 𝓤) (sem 𝓛 (fields_own start room written))
  fields_made start room written room_fits written_fits =
      let stored : Is Fields (start, (room, (written, tt))) (memory_val start room written ∷ []) = (
        (ptr_val start ∷ [], (vint w64 room ∷ [], (vint w64 written ∷ [], tt))),
        (refl, (refl, ((refl, room_fits), ((refl, written_fits), tt)))),
      ) in
      Struct-Makes 𝓛 (shape RawMemory.the_type)
      ((λ x vs. tt), ((λ x vs. (tt, tt)), ((λ x vs. (tt, tt)), tt))) (start, (room, (written, tt)))
      (memory_val start room written ∷ []) stored

  -- fields that are owned are a struct that is
  pub packs : (S : Shape) (fields : Denots S.fields) (vss : Valss S.fields) →
      ent 𝓤 (sem 𝓛 (owns S.fields fields vss))
      (sem 𝓛 ((Struct S).own_val fields (vstruct (of_list (flat S.fields vss)) ∷ [])))
  packs S fields vss =
      let stored : List Val = vstruct (of_list (flat S.fields vss)) ∷ [] in
      qed 𝓛 (‵ (owns S.fields fields vss) ∷ []) ∵ feq_i ! (List Val) stored stored refl $ fjoin ! $
      fpack ! (Valss S.fields) (within S fields stored) vss $ done !

  -- and so are two values a pair
  pub paired : (R S : RattleType) (x : R.Denot) (y : S.Denot) (u v : Val) →
      ent 𝓤 (⋆ 𝓛 (‵ (R.own_val x (u ∷ [])) ∷ ‵ (S.own_val y (v ∷ [])) ∷ []))
      (sem 𝓛 ((Tuple (R ∷ S ∷ [])).own_val (x, y) (vstruct (vcons u (vcons v vnil)) ∷ [])))
  paired R S x y u v =
      qed 𝓛 (‵ (R.own_val x (u ∷ [])) ∷ ‵ (S.own_val y (v ∷ [])) ∷ []) ∵
      nothing ! $ move ! (2 ∷ 0 ∷ []) $ fjoin ! $ move ! (1 ∷ 0 ∷ []) $ fjoin ! $
      by ! (packs (Declared.shape (tuple_type (R ∷ S ∷ []))) (x, (y, tt)) (u ∷ [], (v ∷ [], tt)))
