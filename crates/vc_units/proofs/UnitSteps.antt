-- A unit that is read in two steps, its parse info and its body, and what each step's end means.
use Rattle.std.proofs.Common.{◌≡◌, ◌≢◌, ℕ, ◌+◌, ◌≤◌, Bool, not, cond, List, ◌++◌, length, take, Option, Result, Ok, Err, sym, ap, subst, ◌∙◌, append_assoc, arith}
use Rattle.std.proofs.lemmas.List.{length-append, length-take-le}
use Rattle.vc_ports.specs.Reading.{Gave}
use Rattle.vc_ports.specs.Filling.{Fills}
use Rattle.vc_ports.specs.declared.whole.Filled.TheVariants.{End, Failed}
use Rattle.vc_ports.proofs.Given.{Gave-then, GaveAll-then}
use Rattle.vc_units.specs.Units.{data_unit, code_of, body_length}
use Rattle.vc_units.specs.Reading.{GaveUnit, GaveRefused, GavePartOfUnit, GaveCutUnit, GaveCutBody, GavePartOfBody, ReadsBody, ReadsUnit}
use Rattle.vc_units.specs.declared.fault.UnitFault.{UnitFault}
use Rattle.vc_units.specs.declared.fault.UnitFault.TheVariants.{Prefix, Offset, Code, Short, ReadFault, NoMemory}
use Rattle.vc_units.proofs.Infos.{data_unit-stub, data_unit-refused, data_unit-cut, data_unit-whole}

-- the end came within the parse info
pub cut_in_info : (before after : Option (List ℕ)) (info : List ℕ) (n : ℕ) → length info ≡ 13 → n ≢ 0 → Fills before after info (End n) → GaveCutUnit before after
cut_in_info before after info n len some fills =
    let taken : length (take n info) ≡ n = length-take-le n info (omega (arith, fills.0)) in
    record {
      part = take n info;
      gave = fills.1;
      some = λ none. some (sym taken ∙ ap length none);
      not_whole = data_unit-stub (take n info) (omega (arith, fills.0));
    }

-- a read failed within the parse info
pub fault_in_info : (before after : Option (List ℕ)) (info : List ℕ) (n : ℕ) → length info ≡ 13 → Fills before after info (Failed n) → GavePartOfUnit before after
fault_in_info before after info n len fills = grind (arith, data_unit-stub, length-take-le)

-- the faults of a parse info
abbrev pub IsInfoFault : UnitFault → Type 0
IsInfoFault Prefix = Unit {0}
IsInfoFault Offset = Unit {0}
IsInfoFault Code = Unit {0}
IsInfoFault fault = ⊥

abbrev failed : {A : Type 0} → UnitFault → Result A UnitFault
failed fault = Err fault

pub fault_is : {A : Type 0} (x y : UnitFault) → failed {A = A} x ≡ failed y → x ≡ y
fault_is x y same = cc

-- one of three faults, or a number
told_fault : (prefix code ends offset : Bool) (count : ℕ) (fault : UnitFault)
    → cond (not prefix) (Err Prefix) (cond (not code) (Err Code) (cond ends (Ok 0) (cond offset (Err Offset) (Ok count)))) ≡ Err fault → IsInfoFault fault
told_fault prefix code ends offset count fault is = grind (arith, fault_is)

-- what a parse info is refused for
pub info_fault : (info : List ℕ) (fault : UnitFault) → body_length info ≡ Err fault → IsInfoFault fault
unfolding body_length
info_fault info fault is = told_fault _ _ _ _ _ fault is

-- such a fault is no failed read
pub no_read_fault : (info : List ℕ) (fault : UnitFault) → body_length info ≡ Err fault → fault ≢ ReadFault
no_read_fault info fault is same = subst IsInfoFault same (info_fault info fault is)

-- the parse info is refused
pub refused_info : (before after : Option (List ℕ)) (place : ℕ) (info : List ℕ) (fault : UnitFault) → length info ≡ 13 → Gave before after info → body_length info ≡ Err fault → ReadsUnit before after place (Err fault)
refused_info before after place info fault len gave is = by_fault fault is (info_fault info fault is)
  where
    refused : (fault : UnitFault) → body_length info ≡ Err fault → GaveRefused before after fault
    refused fault is = record { bytes = info; long = len; gave = gave; refused = λ more. data_unit-refused info more fault len is }

    by_fault : (fault : UnitFault) → body_length info ≡ Err fault → IsInfoFault fault → ReadsUnit before after place (Err fault)
    by_fault Prefix is own = refused Prefix is
    by_fault Offset is own = refused Offset is
    by_fault Code is own = refused Code is
    by_fault Short is own = absurd own
    by_fault ReadFault is own = absurd own
    by_fault NoMemory is own = absurd own

-- the body came whole
pub whole_unit : (before mid after : Option (List ℕ)) (info body : List ℕ) (count : ℕ) → length info ≡ 13 → body_length info ≡ Ok count → length body ≡ count
    → Gave before mid info → Gave mid after body → GaveUnit before after (record { code = code_of info; body = body })
whole_unit before mid after info body count len told whole first second = record {
  bytes = info ++ body;
  gave = Gave-then before mid after info body first second;
  long = omega (arith, length-append info body, len);
  is = λ more. ap data_unit (append_assoc info body more) ∙ data_unit-whole info body more count len told whole;
}

-- ---- a body that comes part by part

-- the end came within a part
pub cut_in_part : (before mid after : Option (List ℕ)) (front part : List ℕ) (count n : ℕ) → length front + length part ≤ count → Gave before mid front → Fills mid after part (End n) → GaveCutBody before after count
cut_in_part before mid after front part count n within first fills =
    let taken : length (take n part) ≡ n = length-take-le n part (omega (arith, fills.0)) in
    record {
      part = front ++ take n part;
      gave = GaveAll-then before mid after front (take n part) first fills.1;
      short = omega (arith, length-append front (take n part), taken, within, fills.0);
    }

-- a read failed within a part
pub fault_in_part : (before mid after : Option (List ℕ)) (front part : List ℕ) (count n : ℕ) → length front + length part ≤ count → Gave before mid front → Fills mid after part (Failed n) → GavePartOfBody before after count
fault_in_part before mid after front part count n within first fills =
    let taken : length (take n part) ≡ n = length-take-le n part (omega (arith, fills.0)) in
    record {
      part = front ++ take n part;
      gave = Gave-then before mid after front (take n part) first fills.1;
      short = omega (arith, length-append front (take n part), taken, within, fills.0);
    }

-- ---- a parse info, and the body behind it

module _ (before mid after : Option (List ℕ)) (info : List ℕ) (count : ℕ) (len : length info ≡ 13) (told : body_length info ≡ Ok count) (first : Gave before mid info) where
  -- the end came within the body
  cut_in_body : GaveCutBody mid after count → GaveCutUnit before after
  cut_in_body body = record {
    part = info ++ body.part;
    gave = GaveAll-then before mid after info body.part first body.gave;
    some = λ none. omega (arith, ap length none, length-append info body.part, len);
    not_whole = data_unit-cut info body.part count len told body.short;
  }

  -- the body came in part
  part_of_body : GavePartOfBody mid after count → GavePartOfUnit before after
  part_of_body body = record {
    part = info ++ body.part;
    gave = Gave-then before mid after info body.part first body.gave;
    not_whole = data_unit-cut info body.part count len told body.short;
  }

  -- a body that isn't read whole
  pub refused_body : (place : ℕ) (fault : UnitFault) → ReadsBody mid after count (Err fault) → ReadsUnit before after place (Err fault)
  refused_body place Short body = cut_in_body body
  refused_body place ReadFault body = part_of_body body
  refused_body place NoMemory body = part_of_body body
  refused_body place Prefix body = absurd body
  refused_body place Offset body = absurd body
  refused_body place Code body = absurd body
