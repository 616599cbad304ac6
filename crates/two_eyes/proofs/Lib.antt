mod LookingLaws
