mod PartLaws
mod CallLaws
mod Calls
mod SeenLaws
mod OpenLaws
mod CloseLaws
mod ViewLaws
