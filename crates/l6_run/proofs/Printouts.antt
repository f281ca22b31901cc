-- A deck has one printout, which is that of its image, too.
use Rattle.std.proofs.Common.{◌≡◌, ℕ, List, refl, ap, sym, subst, ◌∙◌}
use Rattle.l6_prog.specs.Statement.{Parts}
use Rattle.l6_image.specs.Load.{ImagesAreOfOneProgram}
use Rattle.l6_image.specs.Text.{text_of}
use Rattle.l6_image.specs.declared.version.Version.TheVariants.{Two}
use Rattle.l6_steps.specs.Laws.{EndsInOneState}
use Rattle.l6_steps.specs.Configuration.{EndsBy}
use Rattle.l6_steps.specs.State.{State}
use Rattle.l6_machine.specs.Printout.{ending_of, printout}
use Rattle.l6_machine.specs.Options.{OptionValues, context_under, store_rule}
use Rattle.l6_machine.specs.declared.ending.Ending.{Ending}
use Rattle.l6_asm.specs.Assembled.{Assembled}
use Rattle.l6_asm.specs.Laws.{DecksHaveImages, ImagesOfDecksFit}
use Rattle.l6_asm.specs.Spells.{SpellsInOneWay}
use Rattle.l6_run.specs.Laws.{DecksPrintAsImages, ImagesPrintAsDecks, PrintsInOneWay, PrintsLoadedInOneWay, WrittenImagesPrintAsDecks}
use Rattle.l6_run.specs.Prints.{Prints, PrintsLoaded, RunPrints}

pub prints_one : SpellsInOneWay → EndsInOneState → PrintsInOneWay
prints_one one_way one_end options deck input ending ending' text text' prints prints' =
    let same : prints'.assembly ≡ prints.assembly =
    one_way deck prints.assembly prints'.assembly prints.spelled prints'.spelled in
    let context = context_under options input prints.assembly.program in
    let ends' : EndsBy store_rule context prints'.run.final =
    subst (λ (assembly : Assembled). EndsBy store_rule (context_under options input assembly.program)
    prints'.run.final) same prints'.run.by_rule in
    let finals : prints.run.final ≡ prints'.run.final
    = one_end store_rule context prints.run.final prints'.run.final prints.run.by_rule ends' in (
      prints.run.ended ∙ ap (λ (s : State). ending_of s.ending) finals ∙ sym prints'.run.ended,
      prints.run.printed ∙ ap printout finals ∙ sym prints'.run.printed,
    )

-- the run of a program prints what that of the same program does
printed_by : (options : OptionValues) (input : List ℕ) (ending : Ending) (text : List ℕ)
    (one other : List Parts) → one ≡ other →
    RunPrints store_rule (context_under options input one) ending text →
    RunPrints store_rule (context_under options input other) ending text
printed_by options input ending text one other same prints =
    subst (λ (program : List Parts).
    RunPrints store_rule (context_under options input program) ending text) same prints

pub prints_loaded_one : ImagesAreOfOneProgram → EndsInOneState → PrintsLoadedInOneWay
prints_loaded_one one_program one_end options image input ending ending' text text' prints prints' =
    let program : prints'.program ≡ prints.program =
    one_program image prints'.program prints.program prints'.loaded prints.loaded in
    let run = printed_by options input ending' text' prints'.program prints.program program
    prints'.run in
    let finals : prints.run.final ≡ run.final = one_end store_rule
    (context_under options input prints.program) prints.run.final run.final prints.run.by_rule
    run.by_rule in (
      prints.run.ended ∙ ap (λ (s : State). ending_of s.ending) finals ∙ sym run.ended,
      prints.run.printed ∙ ap printout finals ∙ sym run.printed,
    )

pub prints_as_deck : SpellsInOneWay → ImagesAreOfOneProgram → ImagesOfDecksFit → ImagesPrintAsDecks
prints_as_deck one_way one_program images_fit options deck image input assembly ending text fits
    spelled is_image = (
      λ (prints : Prints options deck input ending text). record {
        fits = images_fit deck image assembly fits spelled is_image;
        input_fits = prints.input_fits;
        program = assembly.program;
        loaded = is_image;
        run = printed_by options input ending text prints.assembly.program assembly.program
            (ap (λ (a : Assembled). a.program)
            (one_way deck assembly prints.assembly spelled prints.spelled)) prints.run;
      },
      λ (prints : PrintsLoaded options image input ending text). record {
        fits = fits;
        input_fits = prints.input_fits;
        assembly = assembly;
        spelled = spelled;
        run = printed_by options input ending text prints.program assembly.program
            (one_program image prints.program assembly.program prints.loaded is_image) prints.run;
      },
    )

pub written_prints_as_deck : SpellsInOneWay → ImagesAreOfOneProgram → ImagesOfDecksFit →
    WrittenImagesPrintAsDecks
written_prints_as_deck one_way one_program images_fit options deck image input ending text written =
    prints_as_deck one_way one_program images_fit options deck image input written.assembly ending text
    written.fits written.spelled (Two, written.known, written.written)

pub prints_as_image : SpellsInOneWay → ImagesAreOfOneProgram → ImagesOfDecksFit → DecksHaveImages →
    DecksPrintAsImages
prints_as_image one_way one_program images_fit have options deck input assembly ending text fits
    spelled =
    prints_as_deck one_way one_program images_fit options deck (text_of assembly.program) input
    assembly ending text fits spelled (Two, have deck assembly spelled, refl)
